use Rattle.std.proofs.Common.{get_or, refl, arith}
use Rattle.witness_search.proofs.trace_order.LastLemmas.{up_to_last, up_to_none}
use Rattle.witness_search.proofs.trace_order.lasting.later.Goals as goal

pub returns-in_default-clause-last : goal.returns-in_default-clause-last
returns-in_default-clause-last c =
    up_to_none c.args.indexed.now.events (λ t. get_or c.args.row.now t 0) c.args.lane.now.events.items c.args.latest (c.in_default.ensures.none refl)

pub returns-in-None-clause-last : goal.returns-in-None-clause-last
returns-in-None-clause-last c =
    up_to_last c.args.indexed.now.events (λ t. get_or c.args.row.now t 0) c.args.lane.now.events.items _ c.in-Some.event c.in-Some.ensures.last (omega arith)

pub returns-then-other-event-clause-last : goal.returns-then-other-event-clause-last
returns-then-other-event-clause-last c =
    up_to_last c.args.indexed.now.events (λ t. get_or c.args.row.now t 0) c.args.lane.now.events.items _ c.in-Some.event c.in-Some.ensures.last (omega arith)

pub returns-else-other-event-clause-last : goal.returns-else-other-event-clause-last
returns-else-other-event-clause-last c =
    up_to_last c.args.indexed.now.events (λ t. get_or c.args.row.now t 0) c.args.lane.now.events.items c.in-Some-latest.other c.in-Some.event
    c.in-Some.ensures.last
    (omega (arith, c.if-other-event.false))
