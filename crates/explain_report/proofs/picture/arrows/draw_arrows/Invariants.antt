-- What is drawn so far is any number of such parts.
use Rattle.explain_report.specs.picture.Boxes.{Drawn, IsArrow, Many}
use Rattle.explain_report.proofs.picture.arrows.draw_arrows.Given as goal

abbrev pub invariant-loop-from : goal.invariant-loop-from
invariant-loop-from l = Drawn (Many IsArrow) l.fn.canvas l.canvas
