use Rattle.std.proofs.Common.{take, sym, subst, arith}
use Rattle.std.proofs.lemmas.List.{take_all, take_more}
use Rattle.std.proofs.lemmas.List.Elements.{All-push}
use Rattle.closed_order.specs.Steps.{AreTrueSteps, IsTrueStep}
use Rattle.closed_order.proofs.proving.all_follow.Goals as goal

pub loop-at-preserved : goal.loop-at-preserved
loop-at-preserved c =
    let T = c.args.analysis.now.events in
    let es = c.args.requests.now in
    let steps = c.args.steps.now in
    subst (AreTrueSteps T es) (sym (take_more steps c.loop-at.at _ (omega (arith, c.loop-at-test.true, c.loop-at.auto.at-end))))
    (All-push (IsTrueStep T es) (take c.loop-at.at steps) _ c.loop-at.invariant (c.follows.ensures c.if-not-follows.false))

pub returns : goal.returns
returns c so =
    subst (AreTrueSteps c.args.analysis.now.events c.args.requests.now)
    (take_all c.loop-at.at c.args.steps.now (omega (arith, c.loop-at-test.false, c.loop-at.auto.at-end))) c.loop-at.invariant
