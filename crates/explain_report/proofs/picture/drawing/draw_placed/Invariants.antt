-- What is drawn so far is a box for each run so far.
use Rattle.std.proofs.Common.{take}
use Rattle.explain_report.specs.picture.Boxes.{Drawn, Each, IsRunBox}
use Rattle.explain_report.specs.picture.Placing.{box_of}
use Rattle.explain_report.specs.declared.picture.layout.Placed.{Placed}
use Rattle.explain_report.proofs.picture.drawing.draw_placed.Given as goal

abbrev pub invariant-loop-one : goal.invariant-loop-one
invariant-loop-one l = Drawn (Each (λ (p : Placed). IsRunBox l.indexed l.events (box_of p)) (take l.one-index l.placed)) l.fn.canvas l.canvas
