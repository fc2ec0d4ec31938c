use Rattle.std.proofs.Common.{get_or, refl}
use Rattle.witness_search.proofs.trace_order.LastLemmas.{none_of, end_read}
use Rattle.witness_search.proofs.trace_order.lasting.end_of.Goals as goal

pub returns-then-count-eq0-clause-none : goal.returns-then-count-eq0-clause-none
returns-then-count-eq0-clause-none c =
    λ _ a of. none_of c.args.indexed.now.events (λ t. get_or c.args.row.now t 0) c.args.thread (get_or c.args.row.now c.args.thread 0) refl
    c.if-count-eq0.true a of

pub returns-clause-end : goal.returns-clause-end
returns-clause-end c =
    end_read c.args.indexed.now.events (λ t. get_or c.args.row.now t 0) c.args.thread (get_or c.args.row.now c.args.thread 0) refl c.if-count-eq0.false
    (c.requires.within c.args.thread) c.thread_events.result.now c.thread_events.ensures.events
