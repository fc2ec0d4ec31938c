use Rattle.std.proofs.Common.{◌≡◌, ℕ, List, length}
use Rattle.variable_uses.specs.Held.{AreUsesBefore}
use Rattle.variable_uses.proofs.locks.empty_lists.Given as goal

abbrev pub invariant-loop-lock : goal.invariant-loop-lock
invariant-loop-lock l =
    record {
      len : length l.lists.items ≡ l._lock;
      uses : (numbers : List ℕ) → AreUsesBefore l.indexed.events numbers 0 l.lists.items;
    }
