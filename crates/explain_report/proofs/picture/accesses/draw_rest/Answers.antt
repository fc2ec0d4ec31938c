use Rattle.explain_report.specs.declared.picture.class.Class.TheVariants.{Note}
use Rattle.explain_report.proofs.picture.BoxLemmas.{line_of}
use Rattle.explain_report.proofs.picture.accesses.draw_rest.Goals as goal

pub returns : goal.returns
returns c = line_of Note _ _ _ _ _ _ c.new-text.ensures.items c.as_slice.ensures.value c.in_ok-append_more.ensures c.in_ok-draw_box_line.ensures
