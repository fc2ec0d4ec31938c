use Rattle.std.proofs.Common.{sym, subst}
use Rattle.closed_order.specs.Closed.{enters}
use Rattle.closed_order.specs.Known.{IsBefore}
use Rattle.closed_order.proofs.locking.enters_later.Goals as goal

pub returns : goal.returns
returns c so =
    subst (IsBefore c.args.known.now c.args.step.first) (sym (c.is_before.ensures c.if-not-is_before.false))
    (enters c.args.step.first c.in-Some-held_since.start c.args.event c.in-Some.lock c.in-Some.ensures.acquires
    (c.are_of_two_threads.ensures c.if-not-are_of_two_threads.false) c.in-Some-held_since.ensures
    (c.is_said.ensures c.if-not-is_said.false) (c.is_said-2.ensures so))
