use Rattle.std.proofs.Common.{ℕ, ◌≡◌, ◌<◌, Vec, Global, All, Contains, Some, length}
use Rattle.std.specs.List.{slice_get}
use Rattle.witness_search.specs.declared.trace_order.acquires.Lane.{Lane}
use Rattle.witness_search.proofs.trace_order.acquires.shared_of.Given as goal

abbrev pub invariant-loop-lock : goal.invariant-loop-lock
invariant-loop-lock l =
    record {
      within : All (λ k. k < length l.by_lock) l.shared.items;
      all : (k : ℕ) (v : Vec Lane Global) → k < l.lock → slice_get l.by_lock k ≡ Some v → 1 < length v.items → Contains l.shared.items k;
    }
