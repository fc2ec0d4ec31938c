use Rattle.std.proofs.Common.{get_or}
use Rattle.witness_search.proofs.trace_order.EnableLemmas.{not_ended, ended_here}
use Rattle.witness_search.proofs.trace_order.enabling.is_ended.Goals as goal

pub returns-then-row-thread : goal.returns-then-row-thread
returns-then-row-thread c =
    λ P start last at.
    not_ended c.args.indexed.now.events (λ t. get_or c.args.row.now t 0) P at.correct at.counts c.args.thread c.thread_events.result.now c.thread_events.ensures.events
    (c.requires.within c.args.thread) c.if-row-thread.true

pub returns : goal.returns
returns c =
    λ P start last at.
    ended_here c.args.indexed.now.events (λ t. get_or c.args.row.now t 0) P at.correct at.counts c.args.thread c.thread_events.result.now c.thread_events.ensures.events
    c.is_forked.result c.if-row-thread.false (c.is_forked.ensures P start last at)
