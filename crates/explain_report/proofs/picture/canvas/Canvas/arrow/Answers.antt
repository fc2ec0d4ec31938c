use Rattle.std.proofs.Common.{refl}
use Rattle.explain_report.specs.picture.Boxes.{IsArrow}
use Rattle.explain_report.proofs.picture.BoxLemmas.{shape_of}
use Rattle.explain_report.proofs.picture.ShapeLemmas.{with_arrow}
use Rattle.explain_report.proofs.picture.canvas.Canvas.arrow.Goals as goal

pub invariant_of-self-2 : goal.invariant_of-self-2
invariant_of-self-2 c =
    with_arrow _ _ _ _ _ c.self.invariant c.in_ok-extend_from_slice.ensures.items c.new-shape.ensures.items c.as_slice.ensures.value c.args.arrow.from.0 c.args.arrow.from.1 c.args.arrow.below c.args.arrow.to.0 c.args.arrow.to.1 c.args.arrow.above
    c.in_ok-append_arrow.ensures

pub returns : goal.returns
returns c =
    let arrow = c.args.arrow in
    shape_of IsArrow _ _ _ _ _ _ _ c.self.view_is c.new-shape.ensures.items c.as_slice.ensures.value c.in_ok-append_arrow.ensures c.in_ok-extend_from_slice.ensures.items
    (arrow.from.0, arrow.from.1, arrow.below, arrow.to.0, arrow.to.1, arrow.above, refl)
