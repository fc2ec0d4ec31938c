use Rattle.std.proofs.Common.{refl, sym, subst, ◌∙◌, below_more, arith, get_or}
use Rattle.std.proofs.lemmas.Bool.{false≢true}
use Rattle.std.proofs.lemmas.List.{get_or_default}
use Rattle.std.proofs.lemmas.List.Elements.{Contains-get_or}
use Rattle.must_order.specs.Layout.{IsCounted}
use Rattle.lock_waits.proofs.GatherLemmas.{fails}
use Rattle.lock_waits.proofs.requiring.counts_one_of.Goals as goal

pub loop-at-preserved : goal.loop-at-preserved
loop-at-preserved c = below_more _ _ c.loop-at.invariant (fails _ _ c.is_counted.ensures c.if-is_counted.false)

pub returns-then-is_counted : goal.returns-then-is_counted
returns-then-is_counted c = (
  λ _. (
    get_or c.args.events.now c.loop-at.at 0,
    Contains-get_or c.args.events.now c.loop-at.at 0 (omega (arith, c.loop-at-test.true, c.loop-at.auto.at-end)),
    c.is_counted.ensures.0 c.if-is_counted.true,
  ),
  λ _. refl,
)

pub returns : goal.returns
returns c = (
  λ so. absurd (false≢true so),
  λ (e, (k, lt, at), counted).
      absurd
      (c.loop-at.invariant k (omega (arith, lt, c.loop-at-test.false))
      (subst (IsCounted c.args.indexed.now.events (λ t. get_or c.args.row.now t 0)) (sym at ∙ get_or_default c.args.events.now k e 0 lt) counted)),
)
