use Rattle.calls.proofs.triage.left.text_by.Goals as goal

pub returns-in-Sarif : goal.returns-in-Sarif
returns-in-Sarif c = rw c.in-Sarif.is (simp c.len-in-Sarif.ensures.len at c.log_of.ensures)
