use Rattle.std.proofs.Common.{ℕ, ◌≡◌, Vec, Global, [], Some, length}
use Rattle.std.specs.List.{slice_get}
use Rattle.witness_search.specs.declared.trace_order.acquires.Lane.{Lane}
use Rattle.witness_search.proofs.trace_order.acquires.no_lanes.Given as goal

abbrev pub invariant-loop-lock : goal.invariant-loop-lock
invariant-loop-lock l =
    record {
      len : length l.by_lock.items ≡ l._lock;
      empty : (k : ℕ) (v : Vec Lane Global) → slice_get l.by_lock.items k ≡ Some v → v.items ≡ [];
    }
