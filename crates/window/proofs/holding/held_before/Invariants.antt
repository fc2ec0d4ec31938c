use Rattle.std.proofs.Common.{length}
use Rattle.window.specs.Tables.{AreHeld}
use Rattle.window.proofs.holding.held_before.Given as goal

abbrev pub invariant-loop-event : goal.invariant-loop-event
invariant-loop-event l = AreHeld l.trace.events l.event (length l.trace.locks) l.held.items
