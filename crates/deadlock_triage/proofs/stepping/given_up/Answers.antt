use Rattle.std.proofs.Common.{inl}
use Rattle.deadlock_triage.proofs.StepLemmas.{next-kept_deadlock, next-kept_undecided, next-undecided}
use Rattle.deadlock_triage.proofs.stepping.given_up.Goals as goal

pub returns-in-Apart : goal.returns-in-Apart
returns-in-Apart c =
    next-undecided c.args._trace.now.events c.args._first c.args._second c.args.row c.named.result c.named.ensures.pattern (inl (c.named.ensures.first, c.named.ensures.second)) 0
    c.named.ensures.outcome

pub returns-in-Undecided : goal.returns-in-Undecided
returns-in-Undecided c = next-kept_undecided c.args._trace.now.events c.args._first c.args._second c.args.row _ c.in-Undecided.is

pub returns-in-Deadlock : goal.returns-in-Deadlock
returns-in-Deadlock c = next-kept_deadlock c.args._trace.now.events c.args._first c.args._second c.args.row _ _ _ c.in-Deadlock.is
