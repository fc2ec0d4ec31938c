use Rattle.must_order.specs.Held.{AreLocksHeld}
use Rattle.must_order.proofs.must.locks_of.Given as goal

abbrev pub invariant-loop-lock : goal.invariant-loop-lock
invariant-loop-lock l = AreLocksHeld l.indexed.events l.event l.lock l.locks.items
