-- Locations whose open pairs are all contradicted. `T` is the events of a trace, and `place` gives the number of each
-- event's location. All notions here are this project's own.
use Rattle.std.specs.Prelude.{◌≡◌, ◌⊎◌, ℕ, ◌<◌, ◌≤◌, true, List, All, Contains, length, slice_index}
use Rattle.rapid_text.specs.declared.event.Event.{Event}
use Rattle.explain_report.specs.findings.Findings.{IsShownByNone}
use Rattle.race_groups.specs.Groups.{is_between}
use Rattle.race_groups.specs.Kinds.{IsNeverShownBetween}
use Rattle.race_groups.specs.declared.kinds.Row.{Row}
use Rattle.race_triage.specs.Limits.{place_pair_limit}
use Rattle.race_triage.specs.declared.found.Found.{Found}
use Rattle.race_triage.specs.declared.settling.Settling.{Settling}
use Rattle.race_triage.specs.declared.verdicts.Verdict.{Verdict}
use Rattle.race_triage.specs.Verdicts.{AreAllToldIn, AreOnceTold, IsVerdictOf}

-- if a comes before b, and they are at these two locations, no correct reordering shows them
abbrev pub IsApartAt : List Event → (ℕ → ℕ) → ℕ × ℕ → ℕ → ℕ → Type 0
IsApartAt T place between a b =
    a < b → is_between between.0 between.1 (place a) (place b) ≡ true → IsShownByNone T a b

-- the same for b and each event of the list
abbrev pub AreApartFrom : List Event → (ℕ → ℕ) → ℕ × ℕ → List ℕ → ℕ → Type 0
AreApartFrom T place between es b = All (λ a. IsApartAt T place between a b) es

-- the same for each two events of the list
abbrev pub AreAllApart : List Event → (ℕ → ℕ) → ℕ × ℕ → List ℕ → Type 0
AreAllApart T place between es = All (AreApartFrom T place between es) es

-- the same with the trace and the locations that are looked at
abbrev pub IsApartIn : Settling → ℕ → ℕ → Type 0
IsApartIn s = IsApartAt s.analysis.now.events (slice_index s.places.now) s.between

abbrev pub AreApartFromIn : Settling → List ℕ → ℕ → Type 0
AreApartFromIn s = AreApartFrom s.analysis.now.events (slice_index s.places.now) s.between

abbrev pub AreAllApartIn : Settling → List ℕ → Type 0
AreAllApartIn s = AreAllApart s.analysis.now.events (slice_index s.places.now) s.between

-- the event is at one of the two locations
abbrev pub IsMember : Settling → ℕ → Type 0
IsMember s e = (slice_index s.places.now e ≡ s.between.0) ⊎ (slice_index s.places.now e ≡ s.between.1)

-- The events are some of the trace, among them all of the first n that are at one of the two locations.
pub record AreMembers (s : Settling) (n : ℕ) (es : List ℕ) : Type 0 where
  pub within : All (λ e. e < length s.places.now) es
  pub all : (e : ℕ) → e < n → IsMember s e → Contains es e

-- no correct reordering shows two events at the two locations of the row
abbrev pub IsNeverShownIn : Found → Row → Type 0
IsNeverShownIn found row =
    IsNeverShownBetween found.tables.indexed.now.events (slice_index found.tables.places.now) row.places.0 row.places.1

-- Each two locations with conflicting events have one verdict, and it is right.
pub record AreCorrect (found : Found) (vs : List Verdict) : Type 0 where
  pub verdicts : All (IsVerdictOf found) vs
  pub complete : AreAllToldIn found.tables vs
  pub once : AreOnceTold vs
  pub few : length vs ≤ place_pair_limit
