-- What is drawn so far is any number of such parts.
use Rattle.explain_report.specs.declared.picture.class.Class.TheVariants.{Held}
use Rattle.explain_report.specs.picture.Boxes.{Drawn, IsRect, Many}
use Rattle.explain_report.proofs.picture.shades.draw_shades.Given as goal

abbrev pub invariant-loop-holds : goal.invariant-loop-holds
invariant-loop-holds l = Drawn (Many (IsRect Held)) l.fn.canvas l.canvas
