use Rattle.std.proofs.Common.{IfSome, subst, ap, ◌∙◌, refl, inl, inr}
use Rattle.must_order.specs.Chains.{AreReasons}
use Rattle.explain_report.specs.Chains.{raced_step}
use Rattle.race_page.proofs.reasons.raced_in.Goals as goal

pub returns-in-Some : goal.returns-in-Some
returns-in-Some c =
    let T = c.args.analysis.now.events in
    inl (
      c.in-Some.chains.items,
      subst (λ o. IfSome o (λ cs. AreReasons T c.args.first c.args.second cs.items)) c.in-Some.is c.in_ok-chains.ensures.some,
      c.first_raced.ensures ∙ ap (raced_step T) c.as_slice.ensures.value,
    )

pub returns-in-None : goal.returns-in-None
returns-in-None c = inr (c.in_ok-chains.ensures.none c.in-None.is, refl)
