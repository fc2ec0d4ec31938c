-- None of the steps so far races.
use Rattle.std.proofs.Common.{◌≡◌, find, take, None}
use Rattle.explain_report.specs.Chains.{is_raced}
use Rattle.explain_report.proofs.raced.raced_of.Given as goal

abbrev pub invariant-loop-step : goal.invariant-loop-step
invariant-loop-step l = find (is_raced l.analysis.events) (take l.step-index l.steps) ≡ None
