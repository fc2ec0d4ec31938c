use Rattle.std.proofs.Common.{inr}
use Rattle.deadlock_triage.proofs.StepLemmas.{next-undecided}
use Rattle.deadlock_triage.proofs.stepping.first_miss.Goals as goal

pub returns : goal.returns
returns c =
    next-undecided c.args._trace.now.events c.args.first c.args.second c.args.row c.named.result c.named.ensures.pattern (inr (c.named.ensures.first, c.named.ensures.second))
    c.min-tried.result c.named.ensures.outcome
