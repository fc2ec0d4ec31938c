use Rattle.std.proofs.Common.{refl}
use Rattle.explain_report.specs.picture.Boxes.{IsRect}
use Rattle.explain_report.proofs.picture.BoxLemmas.{shape_of}
use Rattle.explain_report.proofs.picture.ShapeLemmas.{with_rect}
use Rattle.explain_report.proofs.picture.canvas.Canvas.rect.Goals as goal

pub invariant_of-self-2 : goal.invariant_of-self-2
invariant_of-self-2 c =
    with_rect _ _ _ _ _ c.self.invariant c.in_ok-extend_from_slice.ensures.items c.new-shape.ensures.items c.as_slice.ensures.value c.args.class c.args.left c.args.top c.args.width c.args.height
    c.in_ok-append_rect.ensures

pub returns : goal.returns
returns c =
    shape_of (IsRect c.args.class) _ _ _ _ _ _ _ c.self.view_is c.new-shape.ensures.items c.as_slice.ensures.value c.in_ok-append_rect.ensures c.in_ok-extend_from_slice.ensures.items
    (c.args.left, c.args.top, c.args.width, c.args.height, refl)
