use Rattle.std.proofs.Common.{arith}
use Rattle.std.proofs.lemmas.List.{drop_more}
use Rattle.explain_report.proofs.picture.PlacingLemmas.{boxes-end, boxes-more}
use Rattle.explain_report.proofs.picture.layout.place_runs.Goals as goal

pub loop-at-preserved : goal.loop-at-preserved
loop-at-preserved c =
    let runs = c.args.runs.now in
    let k = c.loop-at.at in
    boxes-more c.args.waiters.now c.args.shown.now runs k _ _ _ _ _ _ (drop_more runs k _ c.loop-at-test.true) c.is_drawn.ensures c.placed_at-placed.ensures
    c.in_ok-next.ensures c.loop-at.invariant

pub returns : goal.returns
returns c =
    boxes-end c.args.waiters.now c.args.shown.now c.args.runs.now c.loop-at.at _ _ (omega (arith, c.loop-at-test.false)) c.loop-at.invariant
