use Rattle.std.proofs.Common.{◌∙◌, arith}
use Rattle.std.proofs.lemmas.List.{drop_more}
use Rattle.explain_report.proofs.RunLemmas.{tallies-end, tallies-more}
use Rattle.explain_report.proofs.folded.count_events.Goals as goal

pub loop-event-preserved : goal.loop-event-preserved
loop-event-preserved c =
    let es = c.args.list.now in
    let k = c.loop-event.event-index in (
      tallies-more c.args.indexed.now.events es k _ _ _ _ (drop_more es k _ c.loop-event-test.true) c.count_event.ensures.tallied c.loop-event.invariant.0,
      c.count_event.ensures.len ∙ c.loop-event.invariant.1,
    )

pub returns : goal.returns
returns c = tallies-end c.args.indexed.now.events c.args.list.now c.loop-event.event-index _ _ (omega arith) c.loop-event.invariant.0
