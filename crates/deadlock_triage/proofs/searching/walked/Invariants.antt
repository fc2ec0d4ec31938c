use Rattle.std.proofs.Common.{◌≡◌}
use Rattle.deadlock_triage.proofs.searching.walked.Given as goal

abbrev pub invariant-loop-step : goal.invariant-loop-step
invariant-loop-step l = l.schedule.trace ≡ l.indexed
