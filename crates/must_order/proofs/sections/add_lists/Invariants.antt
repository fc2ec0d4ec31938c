use Rattle.std.proofs.Common.{◌≡◌, ℕ, ◌<◌, [], length, Some, slice_get, option_map}
use Rattle.must_order.proofs.sections.add_lists.Given as goal

abbrev pub invariant-loop-list : goal.invariant-loop-list
invariant-loop-list l =
    record {
      len : length l.lists.items ≡ l._list;
      empty : (m : ℕ) → m < l._list → option_map (λ w. w.items) (slice_get l.lists.items m) ≡ Some [];
    }
