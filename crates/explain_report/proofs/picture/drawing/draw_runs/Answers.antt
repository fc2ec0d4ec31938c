use Rattle.explain_report.specs.picture.Boxes.{Each, IsRunBox}
use Rattle.std.proofs.Common.{map}
use Rattle.explain_report.specs.picture.Placing.{box_of}
use Rattle.explain_report.specs.declared.picture.layout.Placed.{Placed}
use Rattle.explain_report.proofs.picture.BoxLemmas.{each-map, two, weaker}
use Rattle.explain_report.proofs.picture.drawing.draw_runs.Goals as goal

pub returns : goal.returns
returns c =
    let r = c.args.indexed.now in
    let P = c.args.events.now in
    let placed = c.args.drawing.now.placement.placed.items in
    let boxes = weaker (Each (λ (p : Placed). IsRunBox r P (box_of p)) placed) (Each (IsRunBox r P) (map box_of placed)) _ _ (each-map box_of (IsRunBox r P) placed)
    (simp c.as_slice-placed.ensures.value at c.in_ok-draw_placed.ensures) in
    two _ _ _ _ _ (simp c.requires at c.in_ok-draw_others.ensures) boxes
