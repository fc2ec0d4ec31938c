-- The flags from this run on stay as they are.
use Rattle.explain_report.specs.picture.Placing.{KeepsFrom}
use Rattle.explain_report.proofs.picture.choosing.choose_earlier.Given as goal

abbrev pub invariant-loop-step : goal.invariant-loop-step
invariant-loop-step l = KeepsFrom l.last l.fn.shown.items l.shown.items
