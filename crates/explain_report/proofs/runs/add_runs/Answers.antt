use Rattle.std.proofs.Common.{◌∙◌, arith}
use Rattle.std.proofs.lemmas.List.{drop_more}
use Rattle.explain_report.proofs.RunLemmas.{runs-end, runs-more}
use Rattle.explain_report.proofs.runs.add_runs.Goals as goal

pub loop-event-preserved : goal.loop-event-preserved
loop-event-preserved c =
    let es = c.args.list.now in
    let k = c.loop-event.event-index in
    runs-more c.args.indexed.now.events es k _ _ c.loop-event.last _ _ _ _ (drop_more es k _ c.loop-event-test.true) c.thread_or_first.ensures
    c.in_ok-add_ended.ensures.ended c.in_ok-add_ended.ensures.next c.loop-event.invariant

pub returns : goal.returns
returns c =
    c.in_ok-add_last.ensures
    ∙ runs-end c.args.indexed.now.events c.args.list.now c.loop-event.event-index c.loop-event.last _ _ (omega arith) c.loop-event.invariant
