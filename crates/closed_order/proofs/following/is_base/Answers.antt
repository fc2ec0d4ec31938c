use Rattle.std.proofs.Common.{sym, subst}
use Rattle.closed_order.specs.Closed.{base}
use Rattle.closed_order.specs.Known.{IsBefore}
use Rattle.closed_order.proofs.following.is_base.Goals as goal

pub returns-in-Some : goal.returns-in-Some
returns-in-Some c so =
    subst (IsBefore c.args.known.now c.args.step.first) (sym (c.is_there.ensures c.if-not-is_there.false))
    (base c.in-Some.event.now c.args.step.first (c.args.request, c.in-Some.ensures.lookup.3.0, sym c.in-Some.ensures.lookup.1) (c.has_base.ensures so))
