use Rattle.std.proofs.Common.{arith}
use Rattle.std.proofs.lemmas.Bool.{lt-ltb}
use Rattle.explain_report.specs.RunTexts.{event_total}
use Rattle.explain_report.proofs.picture.BoxLemmas.{if_true}
use Rattle.explain_report.proofs.picture.rows.draw_first.Goals as goal

pub returns-in_ok-draw_event : goal.returns-in_ok-draw_event
returns-in_ok-draw_event c =
    if_true _ _ _ _ (lt-ltb 1 (event_total c.args.placed.now.run) (omega (arith, c.if-count-gt1.true, c.event_total-count.ensures)))
    (simp c.first_of-first.ensures at c.in_ok-draw_event.ensures)
