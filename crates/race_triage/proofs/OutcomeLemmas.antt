-- What the size of a list in order tells of a race.
use Rattle.std.proofs.Common.{ℕ, List}
use Rattle.rapid_text.specs.declared.event.Event.{Event}
use Rattle.trace_rules.specs.Rules.{IsDisciplined}
use Rattle.witness_search.specs.trace_order.Laws.{HasListInOrder, InOrderIsSound}
use Rattle.witness_search.specs.trace_order.Sizes.{IsSizeInOrder}
use Rattle.explain_report.specs.declared.verdict.How.TheVariants.{Candidate, Beyond}
use Rattle.explain_report.specs.findings.Findings.{IsShownInOrder}
use Rattle.race_triage.specs.Verdicts.{IsShownBy}

module _ (T : List Event) (a b : ℕ) (law : InOrderIsSound) (rules : IsDisciplined T) (there : HasListInOrder T a b) where
  pub candidate_in_order : (size : ℕ × ℕ) → IsSizeInOrder T a b size → IsShownBy T a b Candidate size.0 size.1
  candidate_in_order (n, k) is =
      let sound = law T is.0 a b rules is.1 in
      record { schedule = is.0; found = is.1; reordering = sound.0; shows = sound.1.1 there; size = is.2 }

  pub beyond_in_order : (size : ℕ × ℕ) → IsSizeInOrder T a b size → IsShownBy T a b Beyond size.0 size.1
  beyond_in_order (n, k) is =
      let sound = law T is.0 a b rules is.1 in
      record { schedule = is.0; found = is.1; reordering = sound.0; shows = sound.1.1 there; size = is.2 }

  pub list_in_order : (size : ℕ × ℕ) → IsSizeInOrder T a b size → IsShownInOrder T a b
  list_in_order (n, k) is =
      let sound = law T is.0 a b rules is.1 in
      (is.0, (is.1.rising, sound.0, sound.1.1 there))
