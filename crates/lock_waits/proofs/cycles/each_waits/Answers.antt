use Rattle.std.proofs.Common.{sym, ◌∙◌, refl, below_more, arith}
use Rattle.std.proofs.lemmas.Bool.{false≢true}
use Rattle.lock_waits.proofs.cycles.each_waits.Goals as goal

pub loop-at-preserved : goal.loop-at-preserved
loop-at-preserved c = below_more _ _ c.loop-at.invariant (c.waits_for.ensures.waits.0 c.if-not-waits_for.false)

pub returns-then-not-waits_for : goal.returns-then-not-waits_for
returns-then-not-waits_for c = (
  λ so. absurd (false≢true so),
  λ all.
      absurd
      (false≢true (sym c.if-not-waits_for.true ∙ c.waits_for.ensures.waits.1 (all c.loop-at.at (omega (arith, c.loop-at-test.true, c.loop-at.auto.at-end, c.requires))))),
)

pub returns : goal.returns
returns c = (λ _ i lt. c.loop-at.invariant i (omega (arith, lt, c.loop-at-test.false)), λ _. refl)
