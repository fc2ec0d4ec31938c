use Rattle.std.proofs.Common.{◌≡◌, ◌≤◌, drop, length}
use Rattle.variable_uses.specs.Held.{times}
use Rattle.variable_uses.proofs.holding.let_go.Given as goal

abbrev pub invariant-loop-at : goal.invariant-loop-at
invariant-loop-at l =
    record {
      same : l.locks.items ≡ l.fn.locks.items;
      within : l.at ≤ length l.locks.items;
      none : times l.lock (drop l.at l.locks.items) ≡ 0;
    }

abbrev pub decreases-loop-at : goal.decreases-loop-at
decreases-loop-at l = l.at
