use Rattle.deadlock_triage.proofs.StepLemmas.{next-kept_deadlock}
use Rattle.deadlock_triage.proofs.stepping.missed.Goals as goal

pub returns-in-Deadlock : goal.returns-in-Deadlock
returns-in-Deadlock c = next-kept_deadlock c.args._trace.now.events c.args.first c.args.second c.args.row _ _ _ c.in-Deadlock.is
