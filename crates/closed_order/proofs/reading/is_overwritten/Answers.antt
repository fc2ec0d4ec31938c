use Rattle.std.proofs.Common.{sym, subst}
use Rattle.closed_order.specs.Closed.{overwritten}
use Rattle.closed_order.specs.Known.{IsBefore}
use Rattle.closed_order.proofs.reading.is_overwritten.Goals as goal

pub returns : goal.returns
returns c so =
    subst (IsBefore c.args.known.now c.args.step.first) (sym (c.is_before.ensures c.if-not-is_before.false))
    (overwritten c.args.step.first c.in-Some.writer c.args.read (c.writes_the_same.ensures c.if-not-writes_the_same.false)
    c.in-Some.ensures c.if-step-writer.false (c.is_said.ensures c.if-not-is_said.false) (c.is_said-2.ensures so))
