-- What the verdicts of triage mean, without numbers of locations and without counts. `r` is the recording of a trace,
-- `T` its events.
use Rattle.std.specs.Prelude.{◌≡◌, ◌⊎◌, ℕ, ◌<◌, List, Contains, length, slice_get}
use Rattle.rapid_text.specs.Recording.{Recording}
use Rattle.rapid_text.specs.declared.event.Event.{Event}
use Rattle.event_index.specs.Relations.{IsConflicting}
use Rattle.schedule.specs.Reordering.{IsCorrectReordering}
use Rattle.schedule.specs.Shows.{Shows}
use Rattle.explain_report.specs.declared.verdict.How.{How}
use Rattle.race_triage.specs.declared.verdicts.Outcome.TheVariants.{Race, Apart}
use Rattle.race_triage.specs.declared.verdicts.Verdict.{Verdict}

-- the two events have the same location
abbrev pub IsAtLocationOf : Recording → ℕ → ℕ → Type 0
IsAtLocationOf r a b = slice_get r.locations a ≡ slice_get r.locations b

-- two events are at the locations of two others, in one order or the other
abbrev pub AreAtLocationsOf : Recording → ℕ → ℕ → ℕ → ℕ → Type 0
AreAtLocationsOf r a b c d = (IsAtLocationOf r a c × IsAtLocationOf r b d) ⊎ (IsAtLocationOf r a d × IsAtLocationOf r b c)

-- some schedule that shows the two events is a correct reordering
abbrev pub IsShownBySome : List Event → ℕ → ℕ → Type 0
IsShownBySome T a b = (P : List ℕ) × IsCorrectReordering T P × Shows T P a b

-- if the verdict is a race, a schedule shows its two events
abbrev pub IsShownIfRace : List Event → Verdict → Type 0
IsShownIfRace T v = (how : How) (events threads : ℕ) → v.outcome ≡ Race how events threads → IsShownBySome T v.first v.second

-- if the verdict is apart, no schedule shows two events at its locations
abbrev pub IsNeverShownIfApart : Recording → Verdict → Type 0
IsNeverShownIfApart r v = v.outcome ≡ Apart
    → (a b : ℕ) → a < length r.events → b < length r.events → AreAtLocationsOf r a b v.first v.second → ¬ IsShownBySome r.events a b

-- each two events of the trace that conflict have a verdict on their locations
abbrev pub AreDecided : Recording → List Verdict → Type 0
AreDecided r vs = (a b : ℕ) → a < b → b < length r.events → IsConflicting r.events a b
    → (v : Verdict) × Contains vs v × AreAtLocationsOf r a b v.first v.second
