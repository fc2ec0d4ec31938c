use Rattle.std.proofs.Common.{ap, codes, List, ℕ, nat_eq, sym, ◌∙◌}
use Rattle.std.specs.List.{starts_with}
use Rattle.explain_report.proofs.places.ArrowLemmas.{passed, rest_is}
use Rattle.explain_report.proofs.places.arrows.arrow_in.Goals as goal

pub loop-at-preserved : goal.loop-at-preserved
loop-at-preserved c =
    let text = c.args.text.now in
    let at = c.loop-at.at in
    passed text at c.loop-at-test.true c.loop-at.invariant
    (ap (λ (rest : List ℕ). starts_with nat_eq rest (codes " < ")) (sym (rest_is text at)) ∙ sym c.starts_with.ensures.value ∙ c.if-starts_with.false)
