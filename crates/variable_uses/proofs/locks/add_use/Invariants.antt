use Rattle.std.proofs.Common.{◌≡◌, length, take}
use Rattle.variable_uses.specs.Held.{AreUsesWith}
use Rattle.variable_uses.proofs.locks.add_use.Given as goal

abbrev pub invariant-loop-lock : goal.invariant-loop-lock
invariant-loop-lock l =
    record {
      len : length l.lists.items ≡ length l.fn.lists.items;
      uses : AreUsesWith l.indexed.events l.numbers l.event (take l.lock-index l.locks) l.lists.items;
    }
