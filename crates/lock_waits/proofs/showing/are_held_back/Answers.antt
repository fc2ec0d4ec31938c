use Rattle.std.proofs.Common.{refl, sym, subst, below_more, arith}
use Rattle.std.proofs.lemmas.List.{get_or_default}
use Rattle.lock_waits.specs.Held.{IsHeldBack}
use Rattle.lock_waits.proofs.showing.are_held_back.Goals as goal

pub loop-at-preserved : goal.loop-at-preserved
loop-at-preserved c = below_more _ _ c.loop-at.invariant (c.is_held_back.ensures.0 c.if-not-is_held_back.false)

pub returns : goal.returns
returns c = (
  λ _ k d lt.
      subst (IsHeldBack c.args.schedule.now.trace.events c.args.schedule.now.events) (sym (get_or_default c.args.requests.now k d 0 lt))
      (c.loop-at.invariant k (omega (arith, lt, c.loop-at-test.false))),
  λ _. refl,
)
