use Rattle.std.proofs.Common.{◌∙◌}
use Rattle.explain_report.specs.places.Names.{is_part_at}
use Rattle.explain_report.proofs.places.NameLemmas.{kept, next}
use Rattle.explain_report.proofs.places.names.is_part.Goals as goal
use Rattle.explain_report.proofs.places.names.is_part.Goals.{then-is_found, else-is_found}

pub loop-at-preserved : goal.loop-at-preserved
loop-at-preserved c =
    let test = is_part_at c.args.part.now c.args.text.now in
    elim c.if-is_found.branch [
      | then-is_found w ↦ w.is_found-is ∙ w.if-is_found.true ∙ kept test c.loop-at.at c.loop-at.is_found c.loop-at.invariant w.if-is_found.true
      | else-is_found w ↦ w.is_found-is ∙ next test c.loop-at.at c.loop-at.is_found w.is_part_at-is_found.result c.loop-at.invariant w.if-is_found.false w.is_part_at-is_found.ensures
    ]
