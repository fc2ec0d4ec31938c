use Rattle.explain_report.proofs.picture.BoxLemmas.{two}
use Rattle.explain_report.proofs.picture.accesses.draw_found.Goals as goal

pub returns : goal.returns
returns c = two _ _ _ _ _ c.in_ok-draw_box.ensures c.in_ok-draw_lines.ensures
