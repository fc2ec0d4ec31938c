-- Which names a command writes, reads and touches: this project's own.
use Rattle.std.specs.List.{list_any}
use Rattle.std.specs.Str.{bytes_eq}
use Rattle.std.specs.Prelude.{ℕ, Bool, false, ◌||◌, List, Option, Some, None}
use Rattle.moves.specs.declared.command.Command.{Command}
use Rattle.moves.specs.declared.command.Command.TheVariants.{Fresh, Add, Back, Swap, Branch, Drop, Adopt}
use Rattle.moves.specs.declared.command.Touched.{Touched}

-- the name whose row a command reads: the source of a branch, otherwise the name that it writes
abbrev pub reads : Command → List ℕ
reads (Fresh x) = x
reads (Add x e) = x
reads (Back x) = x
reads (Swap x i) = x
reads (Branch x k to) = x
reads (Drop x) = x
reads (Adopt x p) = x

-- the name whose row the command changes, adds or removes: the new one of a branch
abbrev pub writes : Command → List ℕ
writes (Fresh x) = x
writes (Add x e) = x
writes (Back x) = x
writes (Swap x i) = x
writes (Branch x k to) = to
writes (Drop x) = x
writes (Adopt x p) = x

-- whether the command reads or writes the row of x
abbrev pub touches : Command → List ℕ → Bool
touches d x = bytes_eq (writes d) x || bytes_eq (reads d) x

-- the new name of a branch
abbrev pub target_of : Command → Option (List ℕ)
target_of (Branch x k to) = Some to
target_of d = None

abbrev pub is_name_of : Option (List ℕ) → List ℕ → Bool
is_name_of None x = false
is_name_of (Some y) x = bytes_eq y x

-- whether x is one of the names
abbrev pub is_touched : Touched → List ℕ → Bool
is_touched t x = is_name_of t.second x || bytes_eq t.first x

-- whether one of the commands touches x
abbrev pub touches_any : List Command → List ℕ → Bool
touches_any D x = list_any (λ d. touches d x) D

-- whether one of the commands writes x
abbrev pub writes_any : List Command → List ℕ → Bool
writes_any D x = list_any (λ d. bytes_eq (writes d) x) D
