use Rattle.std.proofs.Common.{ℕ, ◌<◌, get_or, IfSome}
use Rattle.witness_search.specs.trace_order.Joining.{IsCountedTaken, IsUpToLatest}
use Rattle.witness_search.specs.declared.trace_order.acquires.Lane.{Lane}
use Rattle.witness_search.proofs.trace_order.lasting.latest_of.Given as goal

abbrev pub invariant-loop-at : goal.invariant-loop-at
invariant-loop-at l =
    record {
      counted : IfSome l.latest (IsCountedTaken l.indexed.events (λ t. get_or l.row t 0) l.lock);
      last : (i : ℕ) (d : Lane) → i < l.at → IsUpToLatest l.indexed.events (λ t. get_or l.row t 0) l.latest (get_or l.lanes i d).events.items;
    }
