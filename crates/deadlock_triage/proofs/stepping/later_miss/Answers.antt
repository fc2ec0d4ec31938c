use Rattle.std.proofs.Common.{inl}
use Rattle.deadlock_triage.proofs.StepLemmas.{next-undecided}
use Rattle.deadlock_triage.proofs.stepping.later_miss.Goals as goal

pub returns : goal.returns
returns c =
    next-undecided c.args._trace.now.events c.args.first c.args.second c.args.row c.named.result c.named.ensures.pattern (inl (c.named.ensures.first, c.named.ensures.second))
    c.saturating_add-tried.result c.named.ensures.outcome
