-- The first arrow is not before the index.
use Rattle.explain_report.proofs.places.ArrowLemmas.{IsAhead}
use Rattle.explain_report.proofs.places.arrows.arrow_in.Given as goal

abbrev pub invariant-loop-at : goal.invariant-loop-at
invariant-loop-at l = IsAhead l.text l.at
