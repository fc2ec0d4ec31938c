use Rattle.std.proofs.Common.{subst}
use Rattle.deadlock_triage.specs.Verdicts.{IsJudged}
use Rattle.deadlock_triage.specs.declared.judging.Judgement.{Judgement}
use Rattle.deadlock_triage.proofs.StepLemmas.{next-never, next-shown}
use Rattle.deadlock_triage.proofs.stepping.after.Goals as goal

pub returns-in-Never : goal.returns-in-Never
returns-in-Never c =
    let T = c.args._trace.now.events in
    next-never T c.args.first c.args.second c.args.row c.named.result c.named.ensures.pattern c.named.ensures.first c.named.ensures.second c.named.ensures.outcome
    (subst (IsJudged T c.args.first c.args.second) c.in-Never.is c.requires)

pub returns-in-Shown : goal.returns-in-Shown
returns-in-Shown c =
    let T = c.args._trace.now.events in
    next-shown T c.args.first c.args.second c.args.row c.named-in-Shown.result c.named-in-Shown.ensures.pattern c.named-in-Shown.ensures.first c.named-in-Shown.ensures.second _ _ _ c.named-in-Shown.ensures.outcome
    (subst (IsJudged T c.args.first c.args.second) c.in-Shown.is c.requires)
