use Rattle.std.proofs.Common.{get_or}
use Rattle.witness_search.proofs.trace_order.SizeLemmas.{IsThreadCountUpTo}
use Rattle.witness_search.proofs.trace_order.sizing.threads_counted.Given as goal

abbrev pub invariant-loop-thread : goal.invariant-loop-thread
invariant-loop-thread l = IsThreadCountUpTo (λ t. get_or l.row t 0) l.thread l.count
