use Rattle.explain_report.proofs.picture.BoxLemmas.{line_of}
use Rattle.explain_report.proofs.picture.rows.draw_label.Goals as goal

pub returns : goal.returns
returns c = line_of c.args.class _ _ _ _ _ _ c.new-text.ensures.items c.as_slice.ensures.value c.in_ok-append_label.ensures c.in_ok-draw_box_line.ensures
