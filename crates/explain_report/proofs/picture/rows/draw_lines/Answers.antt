use Rattle.explain_report.proofs.picture.BoxLemmas.{two}
use Rattle.explain_report.proofs.picture.rows.draw_lines.Goals as goal

pub returns : goal.returns
returns c =
    two _ _ _ _ _ c.in_ok-draw_count.ensures
    (two _ _ _ _ _ c.in_ok-draw_first.ensures
    (two _ _ _ _ _ (simp c.last_of-last.ensures at c.in_ok-draw_event.ensures) (simp c.last_of-last.ensures at c.in_ok-draw_reason.ensures)))
