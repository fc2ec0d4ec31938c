use Rattle.std.proofs.Common.{arith}
use Rattle.std.proofs.lemmas.List.{drop_more}
use Rattle.explain_report.proofs.RunLemmas.{each_run-end, each_run-more}
use Rattle.explain_report.proofs.run_lines.append_each_run.Goals as goal

pub loop-at-preserved : goal.loop-at-preserved
loop-at-preserved c =
    let runs = c.args.runs.now in
    let k = c.loop-at.at in
    each_run-more c.args.indexed.now c.args.list.now c.args.waiters.now runs k _ _ _ _ (drop_more runs k _ c.loop-at-test.true) c.in_ok-append_run.ensures
    c.loop-at.invariant

pub returns : goal.returns
returns c =
    each_run-end c.args.indexed.now c.args.list.now c.args.waiters.now c.args.runs.now c.loop-at.at _ _ (omega (arith, c.loop-at-test.false))
    c.loop-at.invariant
