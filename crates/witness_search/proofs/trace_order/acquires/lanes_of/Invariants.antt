use Rattle.witness_search.specs.trace_order.Acquires.{AreTakenUpTo}
use Rattle.witness_search.proofs.trace_order.acquires.lanes_of.Given as goal

abbrev pub invariant-loop-thread : goal.invariant-loop-thread
invariant-loop-thread l = AreTakenUpTo l.indexed l.thread 0 l.by_lock.items
