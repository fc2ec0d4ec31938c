use Rattle.std.proofs.Common.{get_or, nat_eq}
use Rattle.std.specs.HashMap.{get}
use Rattle.witness_search.proofs.trace_order.SearchLemmas.{IsKept-same, IsKept-then}
use Rattle.witness_search.proofs.trace_order.noting.note_reads.Goals as goal

pub loop-thread-init : goal.loop-thread-init
loop-thread-init c = IsKept-same c.args.indexed.now.events (λ t. get_or c.args.aim.now.start.items t 0) (get nat_eq c.args.last.now)

pub loop-thread-preserved : goal.loop-thread-preserved
loop-thread-preserved c =
    IsKept-then c.args.indexed.now.events (λ t. get_or c.args.aim.now.start.items t 0) (get nat_eq c.args.last.now) (get nat_eq c.loop-thread.last)
    (get nat_eq c.note_next.new.last) c.loop-thread.invariant c.in_ok-note_next.ensures
