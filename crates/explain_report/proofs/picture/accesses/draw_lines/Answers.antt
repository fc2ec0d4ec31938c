use Rattle.explain_report.proofs.picture.BoxLemmas.{two}
use Rattle.explain_report.proofs.picture.accesses.draw_lines.Goals as goal

pub returns : goal.returns
returns c =
    two _ _ _ _ _ c.in_ok-draw_thread.ensures (two _ _ _ _ _ c.in_ok-draw_label.ensures (simp c.requires at c.in_ok-draw_locks.ensures))
