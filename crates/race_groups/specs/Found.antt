-- Which rows there are: one for each pair of places with a conflicting pair of events. `T` is the events of a trace;
-- `place` has the place of each event.
use Rattle.std.specs.Prelude.{◌≡◌, ℕ, ◌<◌, ◌≤◌, nat_lt, not, ◌&&◌, Bool, true, false, List, [], ◌∷◌, length, All, slice_get, Some, Result, Err}
use Rattle.rapid_text.specs.declared.event.Event.{Event}
use Rattle.event_index.specs.Relations.{IsConflicting}
use Rattle.race_groups.specs.Groups.{is_between}
use Rattle.race_groups.specs.Rows.{same_places}
use Rattle.race_groups.specs.declared.kinds.Row.{Row}
use Rattle.race_groups.specs.declared.rows.RowsRefusal.{RowsRefusal}
use Rattle.race_groups.specs.declared.rows.RowsRefusal.TheVariants.{TooMany}

-- two events of the two places conflict
pub record HaveConflict (T : List Event) (place : ℕ → ℕ) (places : ℕ × ℕ) : Type 0 where
  pub first : ℕ
  pub second : ℕ
  pub earlier : first < second
  pub conflict : IsConflicting T first second
  pub between : is_between places.0 places.1 (place first) (place second) ≡ true

-- a row with the places of the events a and b
pub record IsFound (place : ℕ → ℕ) (rows : List Row) (a b : ℕ) : Type 0 where
  pub at : ℕ
  pub row : Row
  pub is : slice_get rows at ≡ Some row
  pub between : is_between row.places.0 row.places.1 (place a) (place b) ≡ true

-- each two conflicting events have a row
abbrev pub AreComplete : List Event → (ℕ → ℕ) → List Row → Type 0
AreComplete T place rows = (a b : ℕ) → a < b → IsConflicting T a b → IsFound place rows a b

-- no two rows have the same places
abbrev pub AreOnce : List Row → Type 0
AreOnce rows = (i k : ℕ) (v w : Row) → slice_get rows i ≡ Some v → slice_get rows k ≡ Some w → v.places ≡ w.places → i ≡ k

-- More than `limit` pairs of places have a conflicting pair of events: a list of such pairs of places, each with the
-- lesser place first, and no pair twice.
pub record AreTooMany (T : List Event) (place : ℕ → ℕ) (limit : ℕ) : Type 0 where
  pub places : List (ℕ × ℕ)
  pub more : limit < length places
  pub rising : All (λ p. p.0 ≤ p.1) places
  pub once : (i k : ℕ) (p : ℕ × ℕ) → slice_get places i ≡ Some p → slice_get places k ≡ Some p → i ≡ k
  pub conflicts : All (HaveConflict T place) places

-- whether these are the rows' places, in their order, each with the lesser place first
abbrev pub are_places : List Row → List (ℕ × ℕ) → Bool
are_places [] [] = true
are_places [] (k ∷ ks) = false
are_places (row ∷ rows) [] = false
are_places (row ∷ rows) (k ∷ ks) = (not (nat_lt row.places.1 row.places.0) && same_places row.places k) && are_places rows ks

-- if the call refuses because there are too many rows, P holds
abbrev pub IfTooMany : {X : Type 0} → Result X RowsRefusal → Type 0 → Type 0
IfTooMany answer P = answer ≡ Err TooMany → P
