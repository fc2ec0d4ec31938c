-- The counts of a trace, whoever finds the verdicts. `r` is the trace's recording, and `place` gives the number of
-- each event's location. All notions here are this project's own.
use Rattle.std.specs.Prelude.{◌≡◌, ◌≢◌, ◌≤◌, ◌<◌, ◌+◌, ℕ, Bool, true, List, All, AllPairs, Any, length}
use Rattle.rapid_text.specs.Recording.{Recording, IsWellFormed}
use Rattle.rapid_text.specs.declared.event.Event.{Event}
use Rattle.trace_rules.specs.Rules.{IsDisciplined}
use Rattle.event_index.specs.Relations.{IsConflicting}
use Rattle.must_order.specs.Kinds.{IsKind}
use Rattle.must_order.specs.declared.kind.Kind.TheVariants.{Candidate, Open, Guarded, Forced}
use Rattle.race_groups.specs.Found.{HaveConflict}
use Rattle.race_groups.specs.Groups.{conflicts, is_between, IsCountOf}
use Rattle.race_triage.specs.Texts.{AreTotals}
use Rattle.race_triage.specs.Verdicts.{AreAllTold, AreOnceTold, IsVerdict}
use Rattle.race_triage.specs.declared.totals.Totals.{Totals}
use Rattle.race_triage.specs.Limits.{place_pair_limit}
use Rattle.race_triage.specs.declared.verdicts.Verdict.{Verdict}

-- These are the pairs of locations of the trace's conflicting pairs. Each occurs once, with the lesser number first.
pub record ArePlacesOf (T : List Event) (place : ℕ → ℕ) (places : List (ℕ × ℕ)) : Type 0 where
  pub rising : All (λ (p : ℕ × ℕ). p.0 ≤ p.1) places
  pub once : AllPairs (λ (p q : ℕ × ℕ). p ≢ q) places
  pub conflicts : All (HaveConflict T place) places
  pub all : (a b : ℕ) → a < b → IsConflicting T a b → Any (λ (p : ℕ × ℕ). is_between p.0 p.1 (place a) (place b) ≡ true) places

-- The counts are those of the whole trace: its events and threads, its conflicting pairs of each kind, and their
-- pairs of locations.
pub record AreTotalsOf (r : Recording) (place : ℕ → ℕ) (t : Totals) : Type 0 where
  pub events : t.events ≡ length r.events
  pub threads : t.threads ≡ length r.threads
  pub pairs : t.pairs ≡ length (conflicts r.events)
  pub candidates : IsCountOf (λ e. IsKind r e.0 e.1 Candidate) (conflicts r.events) t.candidates
  pub open_pairs : IsCountOf (λ e. IsKind r e.0 e.1 Open) (conflicts r.events) t.open_pairs
  pub guarded : IsCountOf (λ e. IsKind r e.0 e.1 Guarded) (conflicts r.events) t.guarded
  pub forced : IsCountOf (λ e. IsKind r e.0 e.1 Forced) (conflicts r.events) t.forced
  pub places : List (ℕ × ℕ)
  pub are_places : ArePlacesOf r.events place places
  pub count : t.places ≡ length places
  pub parts : t.places ≡ t.races + t.undecided + t.apart

-- the counts over a correct list of verdicts are the counts of the trace
abbrev pub TotalsAreOfTheTrace : Type 0
TotalsAreOfTheTrace =
    (r : Recording) (place : ℕ → ℕ) (tries : ℕ) (apart : Bool) (vs : List Verdict) (t : Totals)
    → IsWellFormed r
    → IsDisciplined r.events
    → All (IsVerdict r place tries apart) vs
    → AreAllTold r.events place vs
    → AreOnceTold vs
    → length vs ≤ place_pair_limit
    → AreTotals r vs t
    → AreTotalsOf r place t
