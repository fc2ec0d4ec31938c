use Rattle.std.proofs.Common.{◌∙◌, ap, arith}
use Rattle.std.proofs.lemmas.List.{length-set}
use Rattle.race_triage.specs.declared.verdicts.Verdict.{Verdict}
use Rattle.race_triage.proofs.SettledLemmas.{correct-set}
use Rattle.race_triage.proofs.settling.settle_all.Goals as goal

pub loop-at-preserved : goal.loop-at-preserved
loop-at-preserved c =
    let vs = c.loop-at.verdicts.items in
    let at = c.loop-at.at in
    let v = c.in_ok-verdict.verdict in
    let long = c.loop-at.invariant.1 in
    let old : Verdict = c.index.result.now in (
      correct-set c.args.found.now vs at v old (omega (arith, c.loop-at-test.true, long)) (c.in_ok-verdict.ensures.row ∙ ap (λ (x : Verdict). x.row) c.index.ensures)
          c.in_ok-verdict.ensures.verdict c.loop-at.invariant.0,
      length-set vs at v ∙ long,
    )
