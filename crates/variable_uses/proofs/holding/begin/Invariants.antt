use Rattle.std.proofs.Common.{◌≡◌, length}
use Rattle.variable_uses.specs.Held.{AreHeld}
use Rattle.variable_uses.proofs.holding.begin.Given as goal

abbrev pub invariant-loop-thread : goal.invariant-loop-thread
invariant-loop-thread l =
    record {
      len : length l.held.items ≡ l._thread;
      held : AreHeld l.indexed.events 0 l.held.items;
    }
