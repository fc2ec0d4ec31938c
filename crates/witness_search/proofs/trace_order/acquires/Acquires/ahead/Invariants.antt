use Rattle.std.proofs.Common.{ℕ, ◌<◌, get_or}
use Rattle.witness_search.specs.trace_order.Counting.{IsEndedIn}
use Rattle.witness_search.proofs.trace_order.acquires.Acquires.ahead.Given as goal

abbrev pub invariant-loop-thread : goal.invariant-loop-thread
invariant-loop-thread l = (t : ℕ) → t < l.thread → IsEndedIn l.indexed.events (λ t. get_or l.row t 0) t
