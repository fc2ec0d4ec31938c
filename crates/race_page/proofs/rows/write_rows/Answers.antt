use Rattle.std.proofs.Common.{◌≡◌, ◌++◌, ℕ, List, map, take, min, length, ap, ◌∙◌, arith}
use Rattle.std.proofs.lemmas.List.{take_min}
use Rattle.race_triage.specs.declared.verdicts.Verdict.{Verdict}
use Rattle.race_page.specs.Rows.{followed_in, row_of}
use Rattle.race_page.proofs.RowLemmas.{rows_more_of}
use Rattle.race_page.proofs.rows.write_rows.Goals as goal

pub returns-clause-rows : goal.returns-clause-rows
returns-clause-rows c =
    let at : c.loop-at.at ≡ min 2000 (length c.args.kept.now) = omega arith in
    c.loop-at.invariant.1
    ∙ ap (λ (n : ℕ). c.args.page.now.rows ++ map (row_of c.args.page.now.trace (followed_in c.args.about)) (take n c.args.kept.now)) at
    ∙ ap (λ (vs : List Verdict). c.args.page.now.rows ++ map (row_of c.args.page.now.trace (followed_in c.args.about)) vs) (take_min 2000 c.args.kept.now)

pub loop-at-preserved : goal.loop-at-preserved
loop-at-preserved c = (
  c.write_row.ensures.trace ∙ c.loop-at.invariant.0,
  rows_more_of c.args.page.now.trace _ (followed_in c.args.about) c.args.kept.now c.loop-at.at _ _ _ _ (omega arith) c.loop-at.invariant.0 c.loop-at.invariant.1
      c.in_ok-write_row.ensures.rows,
)
