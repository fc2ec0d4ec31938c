use Rattle.explain_report.proofs.picture.BoxLemmas.{two}
use Rattle.explain_report.proofs.picture.rows.draw_run.Goals as goal

pub returns : goal.returns
returns c = two _ _ _ _ _ c.in_ok-draw_box.ensures (two _ _ _ _ _ c.in_ok-draw_bar.ensures c.in_ok-draw_lines.ensures)
