use Rattle.explain_report.proofs.picture.BoxLemmas.{two}
use Rattle.explain_report.proofs.picture.accesses.draw_locks.Goals as goal

pub returns : goal.returns
returns c = two _ _ _ _ _ (simp c.first_of.ensures at c.in_ok-draw_named.ensures) c.in_ok-draw_more.ensures
