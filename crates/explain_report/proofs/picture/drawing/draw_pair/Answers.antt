use Rattle.explain_report.proofs.picture.BoxLemmas.{two}
use Rattle.explain_report.proofs.picture.drawing.draw_pair.Goals as goal

pub returns : goal.returns
returns c = two _ _ _ _ _ c.in_ok-draw_line.ensures (two _ _ _ _ _ c.in_ok-draw_access.ensures c.in_ok-draw_access-2.ensures)
