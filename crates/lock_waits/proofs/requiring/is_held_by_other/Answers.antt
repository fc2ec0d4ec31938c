use Rattle.std.proofs.Common.{ℕ, refl, sym, subst, ◌∙◌, below_more, arith, get_or}
use Rattle.std.proofs.lemmas.Bool.{false≢true}
use Rattle.std.proofs.lemmas.List.{get_or_default}
use Rattle.std.proofs.lemmas.List.Elements.{Contains-get_or}
use Rattle.lock_waits.specs.Required.{IsForeign}
use Rattle.lock_waits.proofs.GatherLemmas.{fails}
use Rattle.lock_waits.proofs.requiring.is_held_by_other.Goals as goal

pub loop-at-preserved : goal.loop-at-preserved
loop-at-preserved c = below_more _ _ c.loop-at.invariant (fails _ _ c.is_foreign_to.ensures c.if-is_foreign_to.false)

pub returns-then-is_foreign_to : goal.returns-then-is_foreign_to
returns-then-is_foreign_to c = (
  λ _. (
    get_or c.args.requests.now c.loop-at.at 0,
    Contains-get_or c.args.requests.now c.loop-at.at 0 (omega (arith, c.loop-at-test.true, c.loop-at.auto.at-end)),
    c.is_foreign_to.ensures.0 c.if-is_foreign_to.true,
  ),
  λ _. refl,
)

pub returns : goal.returns
returns c = (
  λ so. absurd (false≢true so),
  λ (e, (k, lt, at), f).
      absurd
      (c.loop-at.invariant k (omega (arith, lt, c.loop-at-test.false))
      (subst (λ (d : ℕ). IsForeign c.args.indexed.now.events d c.args.event) (sym at ∙ get_or_default c.args.requests.now k e 0 lt) f)),
)
