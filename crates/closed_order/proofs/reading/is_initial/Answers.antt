use Rattle.std.proofs.Common.{sym, subst}
use Rattle.closed_order.specs.Closed.{initial}
use Rattle.closed_order.specs.Known.{IsBefore}
use Rattle.closed_order.proofs.reading.is_initial.Goals as goal

pub returns : goal.returns
returns c so =
    subst (IsBefore c.args.known.now c.args.step.first) (sym c.in-Some.is)
    (initial c.in-Some.write c.args.step.first (c.writes_the_same.ensures c.if-not-writes_the_same.false)
    (c.reads_nothing.ensures c.if-not-reads_nothing.false) (c.is_said.ensures so))
