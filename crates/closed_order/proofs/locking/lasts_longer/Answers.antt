use Rattle.std.proofs.Common.{sym, subst}
use Rattle.closed_order.specs.Closed.{lasts}
use Rattle.closed_order.specs.Known.{IsBefore}
use Rattle.closed_order.proofs.locking.lasts_longer.Goals as goal

pub returns : goal.returns
returns c so =
    subst (IsBefore c.args.known.now c.args.step.first) (sym c.in-Some.is)
    (lasts c.in-Some.last c.args.step.first (c.acquire_the_same.ensures c.if-not-acquire_the_same.false)
    (c.never_ends.ensures c.if-not-never_ends.false) (c.is_said.ensures so))
