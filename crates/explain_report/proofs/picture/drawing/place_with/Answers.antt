use Rattle.std.proofs.Common.{List, ◌++◌, ap, length, map, subst, ◌∙◌}
use Rattle.explain_report.specs.declared.runs.Run.{Run}
use Rattle.explain_report.specs.picture.Boxes.{AreChosen, boxes_after}
use Rattle.explain_report.specs.picture.Placing.{box_of}
use Rattle.explain_report.specs.declared.picture.layout.Placed.{Placed}
use Rattle.explain_report.proofs.picture.PlacingLemmas.{with_runs}
use Rattle.explain_report.proofs.picture.drawing.place_with.Goals as goal

pub returns : goal.returns
returns c = record {
  runs = c.requires.runs;
  waiters = c.args.waiters.now;
  wait = c.requires.waiters;
  chosen = subst (λ (runs : List Run). AreChosen (length runs) c.in_ok-shown.shown.items) (c.as_slice.ensures.value ∙ c.requires.runs) c.in_ok-shown.ensures;
  placed =
      with_runs c.args.waiters.now c.place_runs.new.all.items _ _ _ _ (c.as_slice-2.ensures.value ∙ c.requires.runs) c.as_slice-3.ensures.value
      (c.in_ok-place_runs.ensures ∙ ap (λ (ps : List Placed). map box_of ps ++ boxes_after c.args.waiters.now c.as_slice-3.result.now 0 c.as_slice-2.result.now) c.new-placed.ensures.items);
}
