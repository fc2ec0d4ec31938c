use Rattle.std.proofs.Common.{ℕ, List, ◌++◌, ap, ◌∙◌}
use Rattle.race_page.specs.Own.{end_text}
use Rattle.race_page.specs.declared.own.Tag.TheVariants.{Summary}
use Rattle.race_page.proofs.rows.write_summary.Goals as goal

pub returns : goal.returns
returns c =
    let reason = c.in_ok-write_reason.ensures in
    record {
      title = c.args.title.now;
      reason = reason.0;
      reasoned = reason.2;
      printed =
          c.in_ok-write.ensures
          ∙ ap (λ (xs : List ℕ). xs ++ end_text Summary) (reason.1 ∙ ap (λ (xs : List ℕ). xs ++ reason.0) c.in_ok-begin_summary.ensures);
    }
