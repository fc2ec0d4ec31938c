use Rattle.std.proofs.Common.{◌++◌, List, ℕ, codes, append_assoc, ap, ◌∙◌}
use Rattle.explain_report.specs.Contradicted.{by_one}
use Rattle.explain_report.proofs.contradicted.append_lasting.Goals as goal

pub returns : goal.returns
returns c =
    c.in_ok-append_one.ensures
    ∙ ap (λ (xs : List ℕ). xs ++ by_one c.args.due) c.in_ok-append_words.ensures
    ∙ append_assoc c.args.out.now.items (codes ", whose critical section does not end") (by_one c.args.due)
