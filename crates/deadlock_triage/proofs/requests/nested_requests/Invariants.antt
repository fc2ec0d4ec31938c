use Rattle.deadlock_triage.specs.Nesting.{AreNestedBelow, IsReach}
use Rattle.deadlock_triage.proofs.requests.nested_requests.Given as goal

abbrev pub invariant-loop-event : goal.invariant-loop-event
invariant-loop-event l = record { reach : IsReach l.analysis l.event l.reach.items; nested : AreNestedBelow l.analysis l.event l.nested.items }
