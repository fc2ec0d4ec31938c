use Rattle.explain_report.proofs.picture.drawing.drawing_of.Goals as goal

pub returns : goal.returns
returns c = record {
  placement = simp c.indexed-indexed.ensures at c.in_ok-placement.ensures;
  first = c.in_ok-first_locks.ensures;
  second = c.in_ok-second_locks.ensures;
}
