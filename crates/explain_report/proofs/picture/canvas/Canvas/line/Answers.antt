use Rattle.std.proofs.Common.{refl}
use Rattle.explain_report.specs.picture.Boxes.{IsWhole}
use Rattle.explain_report.proofs.picture.BoxLemmas.{shape_of}
use Rattle.explain_report.proofs.picture.ShapeLemmas.{with_line}
use Rattle.explain_report.proofs.picture.canvas.Canvas.line.Goals as goal

pub invariant_of-self-2 : goal.invariant_of-self-2
invariant_of-self-2 c =
    with_line _ _ _ _ _ c.self.invariant c.in_ok-extend_from_slice.ensures.items c.new-shape.ensures.items c.as_slice.ensures.value c.args.class c.args.left c.args.base c.args.text.now
    c.in_ok-append_line.ensures

pub returns : goal.returns
returns c =
    shape_of (IsWhole c.args.class c.args.text.now) _ _ _ _ _ _ _ c.self.view_is c.new-shape.ensures.items c.as_slice.ensures.value c.in_ok-append_line.ensures c.in_ok-extend_from_slice.ensures.items
    (c.args.left, c.args.base, refl)
