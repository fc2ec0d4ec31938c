use Rattle.std.proofs.Common.{get_or}
use Rattle.witness_search.proofs.trace_order.AnswerLemmas.{counted_read, uncounted_read}
use Rattle.witness_search.proofs.trace_order.EnableLemmas.{step_unwanted, step_first, step_second, step_other}
use Rattle.witness_search.proofs.trace_order.enabling.is_step.Goals as goal

pub returns-then-not-is_counted : goal.returns-then-not-is_counted
returns-then-not-is_counted c =
    λ P at.
    step_unwanted c.args.indexed.now.events c.args.aim.now.first c.args.aim.now.second (λ t. get_or c.args.aim.now.wanted.items t 0) P c.args.event
    (uncounted_read c.args.indexed.now.events c.args.event c.args.aim.now.wanted.items c.as_slice.result.now c.is_counted.result c.as_slice.ensures.value c.is_counted.ensures
    c.if-not-is_counted.true)

pub returns-then-event-aim : goal.returns-then-event-aim
returns-then-event-aim c =
    λ P at.
    step_first c.args.indexed.now.events c.args.aim.now.first c.args.aim.now.second (λ t. get_or c.args.aim.now.wanted.items t 0) P c.args.event
    (counted_read c.args.indexed.now.events c.args.event c.args.aim.now.wanted.items c.as_slice.result.now c.is_counted.result c.as_slice.ensures.value c.is_counted.ensures
    c.if-not-is_counted.false) c.if-event-aim.true

pub returns-then-event-aim-2 : goal.returns-then-event-aim-2
returns-then-event-aim-2 c =
    λ P at.
    step_second c.args.indexed.now.events c.args.aim.now.first c.args.aim.now.second (λ t. get_or c.args.aim.now.wanted.items t 0) P c.args.event
    (counted_read c.args.indexed.now.events c.args.event c.args.aim.now.wanted.items c.as_slice.result.now c.is_counted.result c.as_slice.ensures.value c.is_counted.ensures
    c.if-not-is_counted.false) c.if-event-aim.false c.if-event-aim-2.true

pub returns : goal.returns
returns c =
    λ P at.
    step_other c.args.indexed.now.events c.args.aim.now.first c.args.aim.now.second (λ t. get_or c.args.aim.now.wanted.items t 0) P c.args.event
    (counted_read c.args.indexed.now.events c.args.event c.args.aim.now.wanted.items c.as_slice.result.now c.is_counted.result c.as_slice.ensures.value c.is_counted.ensures
    c.if-not-is_counted.false) c.if-event-aim.false c.if-event-aim-2.false c.may_come.result (c.may_come.ensures P at)
