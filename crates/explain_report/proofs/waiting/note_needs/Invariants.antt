-- Each event that was recorded waits.
use Rattle.explain_report.specs.Waiting.{AreWaiters}
use Rattle.explain_report.proofs.waiting.note_needs.Given as goal

abbrev pub invariant-loop-need : goal.invariant-loop-need
invariant-loop-need l = AreWaiters l.indexed.events l.list l.waiters.items
