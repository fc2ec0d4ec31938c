use Rattle.std.proofs.Common.{ℕ, ◌≢◌, ◌<◌, get_or}
use Rattle.witness_search.specs.trace_order.Joining.{AreEnded}
use Rattle.witness_search.specs.declared.trace_order.acquires.Lane.{Lane}
use Rattle.witness_search.proofs.trace_order.lasting.due_on.Given as goal

abbrev pub invariant-loop-at : goal.invariant-loop-at
invariant-loop-at l =
    (i : ℕ) (d : Lane) → i < l.at → (get_or l.lanes i d).thread ≢ l.latest.thread → AreEnded l.indexed.events (λ t. get_or l.row t 0)
    (get_or l.lanes i d).events.items
