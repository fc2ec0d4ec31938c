use Rattle.explain_report.proofs.picture.ShapeLemmas.{no_shapes}
use Rattle.explain_report.proofs.picture.canvas.Canvas.new.Goals as goal

pub invariant_of-result : goal.invariant_of-result
invariant_of-result c = no_shapes _ c.new.ensures.items
