use Rattle.std.proofs.Common.{sym, subst}
use Rattle.closed_order.specs.Closed.{unseen}
use Rattle.closed_order.specs.Known.{IsBefore}
use Rattle.closed_order.proofs.reading.is_unseen.Goals as goal

pub returns : goal.returns
returns c so =
    subst (IsBefore c.args.known.now c.args.step.first) (sym c.in-Some-second.is)
    (unseen c.in-Some-second.write c.in-Some.writer c.args.step.first (c.writes_the_same.ensures c.if-not-writes_the_same.false)
    c.in-Some.ensures (c.is_said.ensures c.if-not-is_said.false) (c.is_said-2.ensures so))
