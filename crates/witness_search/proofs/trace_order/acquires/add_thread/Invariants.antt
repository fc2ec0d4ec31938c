use Rattle.witness_search.specs.trace_order.Acquires.{AreTakenUpTo}
use Rattle.witness_search.proofs.trace_order.acquires.add_thread.Given as goal

abbrev pub invariant-loop-place : goal.invariant-loop-place
invariant-loop-place l = AreTakenUpTo l.indexed l.thread l.place l.by_lock.items
