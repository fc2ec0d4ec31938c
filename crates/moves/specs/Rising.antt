-- Rows under their ages, by rising age. No public clause cites this module.
use Rattle.std.specs.Prelude.{◌≡◌, ◌≢◌, ◌<◌, ℕ, List, [], ◌∷◌, All, Result, Some, None, length, slice_index_or}
use Rattle.std.specs.BTreeMap.{is_at}
use Rattle.std.specs.Map.{lookup, set_value}
use Rattle.std.specs.Option.{IfSome}
use Rattle.std.specs.Ordering.{nat_cmp}
use Rattle.std.specs.Result.{IfOk, OnErr}
use Rattle.rapid_text.specs.Recording.{Recording}
use Rattle.schedule.specs.Reordering.{IsCorrectReordering}
use Rattle.schedule.specs.Scheduled.{Scheduled}
use Rattle.moves.specs.declared.inverse.Step.{Step}
use Rattle.moves.specs.declared.row.Row.{Row}
use Rattle.moves.specs.Inverses.{stepped}

-- ages, and the names and rows under them
abbrev pub Entries : Type 0
Entries = List (ℕ × (List ℕ × Row))

-- each age is below those after it
abbrev pub Rises : Entries → Type 0
Rises [] = Unit {0}
Rises (e ∷ E) = All (λ (f : ℕ × (List ℕ × Row)). e.0 < f.0) E × Rises E

-- the row of age a is at this index
abbrev pub IsPlaceOf : Entries → ℕ → ℕ → Type 0
IsPlaceOf E a i = (i < length E) × ((d : ℕ × (List ℕ × Row)) → (slice_index_or E i d).0 ≡ a)

-- all ages are below a
abbrev pub EndsBelow : Entries → ℕ → Type 0
EndsBelow E a = All (λ (e : ℕ × (List ℕ × Row)). e.0 < a) E

-- the row with this schedule
abbrev pub with_schedule : Row → Scheduled → Row
with_schedule r s = record { birth = r.birth; schedule = s }

-- the step can be taken of the schedule under the age a
abbrev pub CanStep : Recording → ℕ → Step → Entries → Type 0
CanStep T a step E = (p : List ℕ × Row) × (lookup (is_at (nat_cmp a)) E ≡ Some p) × (p.1.schedule.trace ≡ T) × (stepped step p.1.schedule ≢ None)

-- The schedule of p, which is under the age a, has taken the step, and the result is the step that takes it back. Or it
-- has not, and the schedule stays. E are the entries before, F those after.
abbrev pub StepsAt : ℕ → Step → Entries → Entries → Result Step Step → List ℕ × Row → Type 0
StepsAt a step E F q p =
    (t : Scheduled) × (F ≡ set_value (is_at (nat_cmp a)) E (p.0, with_schedule p.1 t)) × IfOk q (λ back. stepped step p.1.schedule ≡ Some t)
    × IfOk q (λ back. stepped back t ≡ Some p.1.schedule) × OnErr q (t ≡ p.1.schedule) × IsCorrectReordering p.1.schedule.trace.events p.1.schedule.events

abbrev pub IsStepped : ℕ → Step → Entries → Entries → Result Step Step → Type 0
IsStepped a step E F q = IfSome (lookup (is_at (nat_cmp a)) E) (StepsAt a step E F q)
