-- The rows while pairs of requests are visited. No public clause cites this module.
use Rattle.std.specs.Prelude.{◌≡◌, ◌⊎◌, ℕ, ◌<◌, Bool, true, if◌then◌else◌, List, [], ◌∷◌, ◌++◌, length, slice_get, slice_index, Option, Some, Vec, option_map}
use Rattle.std.specs.declared.alloc.Global.{Global}
use Rattle.rapid_text.specs.Recording.{Recording}
use Rattle.rapid_text.specs.declared.event.Event.{Event}
use Rattle.deadlock_triage.specs.Patterns.{HasPattern, locations_of}
use Rattle.deadlock_triage.specs.Requests.{AreNested, IsPair}
use Rattle.deadlock_triage.specs.Verdicts.{IsNeverShown, IsOutcome, IsVerdict}
use Rattle.deadlock_triage.specs.declared.judge.Judge.{Judge}
use Rattle.deadlock_triage.specs.declared.outcomes.Outcome.{Outcome}
use Rattle.deadlock_triage.specs.declared.outcomes.Outcome.TheVariants.{Apart, Undecided}
use Rattle.deadlock_triage.specs.declared.outcomes.Verdict.{Verdict}
use Rattle.deadlock_triage.specs.declared.patterns.Pattern.{Pattern}
use Rattle.deadlock_triage.specs.declared.rows.Rows.{Rows}

-- The two events were visited: they are in the list, the earlier one before the later one. The later one's index is
-- below j, or it is j and the earlier one's index is below i.
pub record IsSeen (nested : List ℕ) (i j e d : ℕ) : Type 0 where
  pub a : ℕ
  pub b : ℕ
  pub lower : a < b
  pub first : slice_get nested a ≡ Some e
  pub second : slice_get nested b ≡ Some d
  pub low : (b < j) ⊎ ((b ≡ j) × (a < i))

-- the text with this index
abbrev pub text_at : List (Vec ℕ Global) → ℕ → Option (List ℕ)
text_at keys k = option_map (λ v. v.items) (slice_get keys k)

-- the verdict with this index has the pattern of the two requests
pub record IsFoundAt (T : List Event) (place : ℕ → ℕ) (vs : List Verdict) (e d : ℕ) : Type 0 where
  pub at : ℕ
  pub verdict : Verdict
  pub is : slice_get vs at ≡ Some verdict
  pub pattern : HasPattern T place e d verdict.pattern

-- no two verdicts are on one pattern
abbrev pub AreOnce : List Verdict → Type 0
AreOnce vs = (i k : ℕ) (v w : Verdict) → slice_get vs i ≡ Some v → slice_get vs k ≡ Some w → v.pattern ≡ w.pattern → i ≡ k

-- What holds for the rows after these pairs were visited. Unless the whole trace is visited, nothing is apart.
pub record AreRows (r : Recording) (place : ℕ → ℕ) (nested : List ℕ) (whole : Bool) (i j : ℕ) (keys : List (Vec ℕ Global)) (vs : List Verdict) : Type 0 where
  pub len : length keys ≡ length vs
  pub texts : (k : ℕ) (v : Verdict) → slice_get vs k ≡ Some v → text_at keys k ≡ Some (locations_of v.pattern)
  pub verdicts : (k : ℕ) (v : Verdict) → slice_get vs k ≡ Some v → IsVerdict r place v
  pub if_whole : (k : ℕ) (v : Verdict) → slice_get vs k ≡ Some v → v.outcome ≡ Apart → whole ≡ true
  pub apart : (k : ℕ) (v : Verdict) → slice_get vs k ≡ Some v → v.outcome ≡ Apart
      → (e d : ℕ) → IsSeen nested i j e d → IsPair r e d → HasPattern r.events place e d v.pattern → IsNeverShown r.events e d
  pub found : (e d : ℕ) → IsSeen nested i j e d → IsPair r e d → IsFoundAt r.events place vs e d
  pub once : AreOnce vs

-- What one more pair of requests makes of a verdict.
pub record IsNext (T : List Event) (e d : ℕ) (old new : Verdict) : Type 0 where
  pub pattern : new.pattern ≡ old.pattern
  pub named : ((new.first ≡ old.first) × (new.second ≡ old.second)) ⊎ ((new.first ≡ e) × (new.second ≡ d))
  pub outcome : IsOutcome T old.first old.second old.outcome → IsOutcome T new.first new.second new.outcome
  pub apart : new.outcome ≡ Apart → (old.outcome ≡ Apart) × IsNeverShown T e d

-- the text was added at the end
abbrev pub IsAdded : List ℕ → List (Vec ℕ Global) → List (Vec ℕ Global) → Type 0
IsAdded text old new = (key : Vec ℕ Global) × (key.items ≡ text) × (new ≡ old ++ key ∷ [])

-- the first outcome for a pattern
abbrev pub first_outcome : Bool → Outcome
first_outcome whole = if whole then Apart else Undecided 0

-- The events are all nested requests of the trace, and each event has the number of its location.
pub record IsJudge (j : Judge) : Type 0 where
  pub places : length j.places.now ≡ length j.analysis.now.events
  pub nested : AreNested j.analysis.now j.nested.now

-- what holds for the rows after these pairs were visited
abbrev pub AreRowsOf : Judge → ℕ → ℕ → Rows → Type 0
AreRowsOf judge i j rows =
    AreRows judge.analysis.now (slice_index judge.places.now) judge.nested.now judge.is_whole i j rows.patterns.keys rows.verdicts.items

-- the row with this index has the pattern
abbrev pub IsRowAt : List Verdict → Pattern → ℕ → Type 0
IsRowAt vs pattern at = (v : Verdict) × (slice_get vs at ≡ Some v) × (v.pattern ≡ pattern)
