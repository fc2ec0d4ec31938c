use Rattle.std.proofs.Common.{ℕ, ◌<◌, ◌≤◌, get_or}
use Rattle.witness_search.specs.trace_order.Joining.{IsClosedOn}
use Rattle.witness_search.proofs.trace_order.joining.due_from.Given as goal

abbrev pub invariant-loop-at : goal.invariant-loop-at
invariant-loop-at l = (i : ℕ) → l.near ≤ i → i < l.at → IsClosedOn l.indexed.events (λ t. get_or l.row t 0) (get_or l.shared i 0)
