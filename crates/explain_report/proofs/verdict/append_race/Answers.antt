use Rattle.std.proofs.Common.{List, ℕ, ◌++◌, append_assoc, refl, ap, subst, ◌∙◌}
use Rattle.rapid_text.specs.Recording.{Recording}
use Rattle.explain_report.specs.RunTexts.{AreRunsTold}
use Rattle.explain_report.proofs.verdict.append_race.Goals as goal

pub returns : goal.returns
returns c =
    let rest = c.in_ok-append_runs.ensures in
    let all = c.args.shown.1 in
    let told = subst (λ (r : Recording). AreRunsTold r c.args.events.now all rest.0) c.indexed.ensures rest.2 in (
      _,
      rest.1 ∙ ap (λ (t : List ℕ). t ++ rest.0) c.in_ok-append_race_words.ensures ∙ append_assoc _ _ rest.0,
      (rest.0, told, refl),
    )
