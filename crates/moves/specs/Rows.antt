-- The rows of a workspace: a finite map from names to a birth and a schedule, listed by rising birth.
-- All of it is this project's own.
use Rattle.std.specs.Str.{bytes_eq}
use Rattle.std.specs.Prelude.{◌≡◌, ◌≢◌, ℕ, List, [], ◌∷◌, Option, Some, None, ◌<◌, All, map, if◌then◌else◌, nat_lt}
use Rattle.std.specs.Map.{lookup, remove_entry}
use Rattle.rapid_text.specs.Recording.{Recording}
use Rattle.schedule.specs.Reordering.{IsCorrectReordering}
use Rattle.moves.specs.declared.row.Row.{Row}

abbrev pub Rows : Type 0
Rows = List (List ℕ × Row)

-- the row of a name, or none
abbrev pub row_of : Rows → List ℕ → Option Row
row_of W x = lookup (bytes_eq x) W

-- names differ and births rise
abbrev pub IsListing : Rows → Type 0
IsListing [] = Unit {0}
IsListing (p ∷ W) = (row_of W p.0 ≡ None) × All (λ (q : List ℕ × Row). p.1.birth < q.1.birth) W × IsListing W

-- W with a row put before the first row of a later birth
abbrev pub put_in : List ℕ → Row → Rows → Rows
put_in x r [] = (x, r) ∷ []
put_in x r (p ∷ W) = if nat_lt r.birth p.1.birth then (x, r) ∷ p ∷ W else p ∷ put_in x r W

-- W with this row, or none, under the name x
abbrev pub with_row : Rows → List ℕ → Option Row → Rows
with_row W x None = remove_entry (bytes_eq x) W
with_row W x (Some r) = put_in x r (remove_entry (bytes_eq x) W)

-- no other name's row has the birth of this one
abbrev pub IsFree : Rows → List ℕ → Option Row → Type 0
IsFree W x None = Unit {0}
IsFree W x (Some r) = (y : List ℕ) (s : Row) → y ≢ x → row_of W y ≡ Some s → s.birth ≢ r.birth

-- all births are below n
abbrev pub Below : ℕ → Rows → Type 0
Below n W = All (λ (q : List ℕ × Row). q.1.birth < n) W

-- each row's schedule is of the trace T
abbrev pub IsOfTrace : Recording → Rows → Type 0
IsOfTrace T W = All (λ (q : List ℕ × Row). q.1.schedule.trace ≡ T) W

-- the row's schedule is of the trace T: a correct reordering of it
abbrev pub IsReordering : Recording → Row → Type 0
IsReordering T r = (r.schedule.trace ≡ T) × IsCorrectReordering T.events r.schedule.events

abbrev pub AreReorderings : Recording → Rows → Type 0
AreReorderings T W = All (λ (q : List ℕ × Row). IsReordering T q.1) W

-- the names by rising birth
abbrev pub names_of : Rows → List (List ℕ)
names_of W = map (λ (q : List ℕ × Row). q.0) W
