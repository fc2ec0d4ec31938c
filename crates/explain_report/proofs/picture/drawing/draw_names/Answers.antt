use Rattle.explain_report.proofs.picture.BoxLemmas.{two, weaker}
use Rattle.explain_report.specs.picture.Boxes.{AreNames, HasNames}
use Rattle.explain_report.proofs.picture.drawing.draw_names.Goals as goal

pub returns : goal.returns
returns c =
    let r = c.args.indexed.now in
    let threads = c.own.result.now in
    let shared = c.is_shared.result in
    weaker (AreNames r threads shared) (HasNames r) _ _ (λ text names. (threads, shared, names)) (two _ _ _ _ _ c.in_ok-draw_own.ensures c.in_ok-draw_shared.ensures)
