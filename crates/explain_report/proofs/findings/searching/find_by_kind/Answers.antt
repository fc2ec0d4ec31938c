use Rattle.explain_report.proofs.findings.FindingLemmas.{refuted}
use Rattle.explain_report.proofs.findings.searching.find_by_kind.Goals as goal

pub candidate-requires-clause-kind : goal.candidate-requires-clause-kind
candidate-requires-clause-kind c = c.is_candidate.ensures.candidate.0 c.if-is_candidate.true

pub forced-requires-clause-kind : goal.forced-requires-clause-kind
forced-requires-clause-kind c = (
  refuted _ _ c.is_candidate.ensures.candidate c.if-is_candidate.false,
  c.is_forced.ensures.forced.0 c.if-is_forced.true,
)

pub open_pair-requires-clause-kind : goal.open_pair-requires-clause-kind
open_pair-requires-clause-kind c = (
  refuted _ _ c.is_candidate.ensures.candidate c.if-is_candidate.false,
  refuted _ _ c.is_forced.ensures.forced c.if-is_forced.false,
  c.guard.ensures.none c.in-None.is,
)

pub returns-in-Some : goal.returns-in-Some
returns-in-Some c = (
  (
    refuted _ _ c.is_candidate.ensures.candidate c.if-is_candidate.false,
    refuted _ _ c.is_forced.ensures.forced c.if-is_forced.false,
    (c.in-Some.lock, c.in-Some.ensures.found.1),
  ),
  record { lock = c.in-Some.ensures.found.0; shared = c.in-Some.ensures.found.1; least = c.in-Some.ensures.least },
)
