-- What a caller sees of a seat and of all seats: which seats are in, what opening gives, and what closing returns.
-- Clauses of callers cite this page. All notions here are this project's own.
use Rattle.std.specs.Prelude.{slice_get, slice_set, zero, suc, ◌-◌, ◌≡◌, ℕ, ◌<◌, ◌≤◌, length, List, [], ◌∷◌, Option, Some, None}
use Rattle.atomic_table.specs.Seated.{TableId}
use Rattle.inverse_log.specs.declared.entry.Entry.{Entry}
use Rattle.inverse_log.specs.Log.{Benched}
use Rattle.workspace_lock.specs.Turns.{Mark, mark, Sees}

-- the workspace that a seat belongs to: its lock, its bench at the opening, and its number of clients
pub record Site : Type 0 where
  pub table : TableId
  pub start : Benched
  pub clients : ℕ

-- the site with these three parts
abbrev pub site_at : TableId → Benched → ℕ → Site
site_at table start clients = record { table = table; start = start; clients = clients }

-- a seat: its site, its number, how many calls it has made, and the log that it has seen
pub record SeatView : Type 0 where
  pub site : Site
  pub number : ℕ
  pub turns : ℕ
  pub seen : List Entry

-- the mark of the client with this number at a site
abbrev pub mark_at : Site → ℕ → List Entry → Mark
mark_at site number seen = mark site.start site.clients number seen

-- the mark of the seat's client
abbrev pub mark_in : SeatView → Mark
mark_in s = mark_at s.site s.number s.seen

-- all seats of a site: row i has the seat of client i + 1, if it is in
pub record SeatsView : Type 0 where
  pub site : Site
  pub rows : List (Option SeatView)

-- a seat that has made no call
abbrev pub fresh_seat : Site → ℕ → SeatView
fresh_seat site n = record { site = site; number = n; turns = 0; seen = site.start.log }

-- k rows with seats that have made no call, from number n on
abbrev pub fresh_rows : Site → ℕ → ℕ → List (Option SeatView)
fresh_rows site n zero = []
fresh_rows site n (suc k) = Some (fresh_seat site n) ∷ fresh_rows site (suc n) k

-- seats for this many clients on this bench, none of which has made a call
abbrev pub Opened : Benched → ℕ → SeatsView → Type 0
Opened bench clients s = (s.site.start ≡ bench) × (s.site.clients ≡ clients) × (s.rows ≡ fresh_rows s.site 1 clients)

-- all seats are in
abbrev pub AreAllIn : List (Option SeatView) → Type 0
AreAllIn rows = (i : ℕ) → i < length rows → (c : SeatView) × (slice_get rows i ≡ Some (Some c))

-- no seat is in
abbrev pub NoneIn : List (Option SeatView) → Type 0
NoneIn rows = (j : ℕ) → j < length rows → slice_get rows j ≡ Some None

-- a seat is out
abbrev pub HasOneOut : List (Option SeatView) → Type 0
HasOneOut rows = (i : ℕ) × (slice_get rows i ≡ Some None)

-- row i is the first that has a seat
abbrev pub IsFirstIn : List (Option SeatView) → ℕ → Type 0
IsFirstIn rows i =
    (i < length rows)
    × ((c : SeatView) × (slice_get rows i ≡ Some (Some c)))
    × ((j : ℕ) → j < i → slice_get rows j ≡ Some None)

-- the seat with this number is in
abbrev pub IsIn : SeatsView → ℕ → Type 0
IsIn s number = (c : SeatView) × (slice_get s.rows (number - 1) ≡ Some (Some c))

-- the seat c was out, and is now in its row
abbrev pub PutsBack : SeatsView → SeatView → SeatsView → Type 0
PutsBack s c n =
    (slice_get s.rows (c.number - 1) ≡ Some None)
    × (n ≡ record s { rows = slice_set s.rows (c.number - 1) (Some c) })

-- the seat c had the least number of all seats that were in, and is now out
pub record TakesFirst (s : SeatsView) (c : SeatView) (n : SeatsView) : Type 0 where
  pub site : c.site ≡ s.site
  pub low : 0 < c.number
  pub high : c.number ≤ s.site.clients
  pub there : slice_get s.rows (c.number - 1) ≡ Some (Some c)
  pub least : (j : ℕ) → j < c.number - 1 → slice_get s.rows j ≡ Some None
  pub out : n ≡ record s { rows = slice_set s.rows (c.number - 1) None }

-- The log of the closed bench begins with what each seat has seen, and has no other entries of the seat's client.
abbrev pub Closes : SeatsView → Benched → Type 0
Closes s bench =
    (bench.trace ≡ s.site.start.trace)
    × ((i : ℕ) (c : SeatView) → slice_get s.rows i ≡ Some (Some c) → Sees (mark_in c) bench.log)
