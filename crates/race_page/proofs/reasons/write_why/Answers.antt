use Rattle.std.proofs.Common.{ℕ, List, ◌++◌, refl}
use Rattle.race_page.proofs.PieceLemmas.{five_more}
use Rattle.race_page.specs.Own.{end_text}
use Rattle.race_page.specs.Reasons.{why_begin}
use Rattle.race_page.specs.declared.own.Tag.TheVariants.{Isolated, Facts}
use Rattle.race_page.proofs.reasons.write_why.Goals as goal

pub returns : goal.returns
returns c =
    let line = c.in_ok-write_line.ensures in
    let raced = c.in_ok-write_raced_in.ensures in (
      why_begin ++ line.0 ++ end_text Isolated ++ raced.0 ++ end_text Facts,
      five_more c.args.piece.now _ _ _ _ _ why_begin line.0 (end_text Isolated) raced.0 (end_text Facts) c.in_ok-write.ensures line.1 c.in_ok-write-2.ensures
          raced.1 c.in_ok-write-3.ensures,
      record { line = line.0; raced = raced.0; printed = refl; lined = line.2; on_way = raced.2 },
    )
