use Rattle.std.proofs.Common.{ℕ, List, ◌++◌, ap, ◌∙◌}
use Rattle.explain_report.proofs.picture.PieceLemmas.{alone}
use Rattle.explain_report.proofs.verdict.explain_text.Goals as goal

pub returns-clause-ok : goal.returns-clause-ok
returns-clause-ok c =
    let told = c.in_ok-append_told.ensures in
    let words = alone _ _ _ _ c.new-text.ensures.items c.as_slice.ensures.value told.1 in
    (told.0, c.in_ok-extend_from_slice.ensures.items ∙ ap (λ (xs : List ℕ). c.args.out.now.items ++ xs) words, told.2)
