use Rattle.explain_report.specs.picture.Boxes.{IsEarlier, IsEarlierBox}
use Rattle.explain_report.proofs.picture.BoxLemmas.{two, weaker}
use Rattle.explain_report.proofs.picture.rows.draw_earlier.Goals as goal

pub returns : goal.returns
returns c =
    let e = c.earlier_of-earlier.result in
    weaker (IsEarlierBox e.runs e.threads e.events) IsEarlier _ _ (λ text box. (e.runs, e.threads, e.events, box))
    (two _ _ _ _ _ c.in_ok-draw_box.ensures (two _ _ _ _ _ c.in_ok-draw_earlier_runs.ensures c.in_ok-draw_earlier_events.ensures))
