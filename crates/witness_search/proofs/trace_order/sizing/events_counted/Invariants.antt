use Rattle.std.proofs.Common.{◌≡◌, get_or}
use Rattle.witness_search.proofs.trace_order.SumLemmas.{sum_to}
use Rattle.witness_search.proofs.trace_order.sizing.events_counted.Given as goal

abbrev pub invariant-loop-thread : goal.invariant-loop-thread
invariant-loop-thread l = l.count ≡ sum_to (λ t. get_or l.row t 0) l.thread
