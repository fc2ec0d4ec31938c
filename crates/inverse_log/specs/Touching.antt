-- The numbers of the live entries that touch each name, and of the live entries of each client.
use Rattle.std.specs.Prelude.{ℕ, Bool, List, map, filter}
use Rattle.moves.specs.Commands.{touches_any}
use Rattle.inverse_log.specs.declared.entry.Entry.{Entry}
use Rattle.inverse_log.specs.Log.{Live, live_of, is_by}

abbrev pub entry_number : Live → ℕ
entry_number e = e.number

abbrev pub touches_name : List ℕ → Live → Bool
touches_name x e = touches_any e.commands x

abbrev pub touching : List Entry → List ℕ → List ℕ
touching L x = map entry_number (filter (touches_name x) (live_of L))

abbrev pub own_live : List Entry → ℕ → List ℕ
own_live L c = map entry_number (filter (is_by c) (live_of L))
