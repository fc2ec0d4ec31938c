use Rattle.std.proofs.Common.{get_or, nat_eq}
use Rattle.std.specs.HashMap.{get}
use Rattle.witness_search.specs.trace_order.Counting.{IsKept}
use Rattle.witness_search.proofs.trace_order.noting.note_reads.Given as goal

abbrev pub invariant-loop-thread : goal.invariant-loop-thread
invariant-loop-thread l = IsKept l.indexed.events (λ t. get_or l.aim.start.items t 0) (get nat_eq l.fn.last) (get nat_eq l.last)
