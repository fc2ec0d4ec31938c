use Rattle.std.proofs.Common.{sym, subst}
use Rattle.closed_order.specs.Closed.{must}
use Rattle.closed_order.specs.Known.{IsBefore}
use Rattle.closed_order.proofs.following.is_by_must.Goals as goal

pub returns-else-step-second : goal.returns-else-step-second
returns-else-step-second c so =
    subst (IsBefore c.args.known.now c.args.step.first) (sym c.in-Some.is)
    (must c.args.step.first c.in-Some.second (c.is_must_before.ensures so) c.if-step-second.false)
