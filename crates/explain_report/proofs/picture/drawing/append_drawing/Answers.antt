use Rattle.std.proofs.Common.{refl, subst, sym}
use Rattle.explain_report.specs.picture.Boxes.{AreOf}
use Rattle.explain_report.proofs.picture.PieceLemmas.{alone, four_pieces}
use Rattle.explain_report.proofs.picture.drawing.append_drawing.Goals as goal

pub returns : goal.returns
returns c =
    let drawn = c.in_ok-draw_all.ensures in
    let size = c.size.result in (
      _,
      four_pieces _ _ _ _ _ _ c.in_ok-append_root.ensures c.in_ok-append_description.ensures _ _ _ c.in_ok-append_words.ensures c.in_ok-append_drawn.ensures,
      record {
        width = size.width;
        height = size.height;
        shown_width = size.shown_width;
        shown_height = size.shown_height;
        shapes = c.bytes.result.now;
        printed = refl;
        drawn = rw c.bytes.ensures.text c.bytes.ensures.shapes;
        told = subst (AreOf c.args.indexed.now c.args.events.now c.args.pair.0 c.args.pair.1) (sym (alone _ _ drawn.0 _ c.new-canvas.ensures c.bytes.ensures.text drawn.1)) drawn.2;
      },
    )
