use Rattle.explain_report.proofs.picture.PlacingLemmas.{with_box, without_box}
use Rattle.explain_report.proofs.picture.layout.place_run.Goals as goal

pub returns-in_ok-push : goal.returns-in_ok-push
returns-in_ok-push c = with_box _ _ _ _ c.if-is_drawn.true c.in_ok-push.ensures.items

pub returns-else-is_drawn : goal.returns-else-is_drawn
returns-else-is_drawn c = without_box c.args.all.now.items c.args.placed _ c.if-is_drawn.false
