use Rattle.std.proofs.Common.{◌++◌, List, ℕ, codes, append_assoc, ap, ◌∙◌}
use Rattle.explain_report.specs.Contradicted.{other_text}
use Rattle.explain_report.proofs.contradicted.append_before.Goals as goal

pub returns : goal.returns
returns c =
    let other : List ℕ = other_text c.args.first c.args.second in
    c.in_ok-append_other.ensures
    ∙ ap (λ (xs : List ℕ). xs ++ other) c.in_ok-append_words.ensures
    ∙ append_assoc c.args.out.now.items (codes "comes before ") other
