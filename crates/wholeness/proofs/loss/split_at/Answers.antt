use Rattle.std.proofs.Common.{ℕ, List, refl, subst, sym, ◌∙◌}
use Rattle.wholeness.specs.Losses.{HasNo}
use Rattle.wholeness.proofs.LossLemmas.{has_one, one_cut}
use Rattle.wholeness.proofs.loss.split_at.Goals as goal

pub returns-in-Some : goal.returns-in-Some
returns-in-Some c first rest is free =
    one_cut c.args.byte c.in-Some.parts.0.now c.in-Some.parts.1.now first rest c.in-Some.ensures.some.1 free (sym c.in-Some.ensures.some.0 ∙ is)

pub returns-in-None : goal.returns-in-None
returns-in-None c first rest is free = absurd (has_one c.args.byte first rest (subst (λ (xs : List ℕ). HasNo c.args.byte xs) is (c.in-None.ensures.none refl)))
