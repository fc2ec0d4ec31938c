use Rattle.explain_report.proofs.picture.BoxLemmas.{two}
use Rattle.explain_report.proofs.picture.DrawingLemmas.{drawn_whole}
use Rattle.explain_report.proofs.picture.drawing.draw_all.Goals as goal

pub returns : goal.returns
returns c =
    drawn_whole c.args.indexed.now c.args.events.now c.args.pair.0 c.args.pair.1 c.args.drawing.now _ _ c.requires
    (two _ _ _ _ _ (simp c.as_slice-runs.ensures.value at c.in_ok-draw_top_line.ensures)
    (two _ _ _ _ _ c.in_ok-draw_names.ensures (two _ _ _ _ _ c.in_ok-draw_arrows.ensures (two _ _ _ _ _ c.in_ok-draw_runs.ensures c.in_ok-draw_pair.ensures))))
