-- Each event that was recorded waits.
use Rattle.explain_report.specs.Waiting.{AreWaiters}
use Rattle.explain_report.proofs.waiting.note_all.Given as goal

abbrev pub invariant-loop-at : goal.invariant-loop-at
invariant-loop-at l = AreWaiters l.indexed.events l.list l.waiters.items
