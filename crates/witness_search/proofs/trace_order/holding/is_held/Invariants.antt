use Rattle.std.proofs.Common.{ℕ, ◌≢◌, ◌<◌, get_or}
use Rattle.witness_search.specs.trace_order.Counting.{IsHolding}
use Rattle.witness_search.specs.declared.trace_order.acquires.Lane.{Lane}
use Rattle.witness_search.proofs.trace_order.holding.is_held.Given as goal

abbrev pub invariant-loop-at : goal.invariant-loop-at
invariant-loop-at l =
    (i : ℕ) (d : Lane) → i < l.at → (get_or l.lanes i d).thread ≢ l.thread
    → ¬ IsHolding l.indexed.events (λ t. get_or l.row t 0) l.lock (get_or l.lanes i d).thread
