use Rattle.std.proofs.Common.{subst, sym}
use Rattle.deadlock_triage.specs.Requests.{AreNested}
use Rattle.deadlock_triage.proofs.verdicts.deadlocks_of.Goals as goal

pub deadlocks_by-requires-clause-nested : goal.deadlocks_by-requires-clause-nested
deadlocks_by-requires-clause-nested c = subst (AreNested c.args.analysis.now) (sym c.as_slice.ensures.value) c.in_ok-nested.ensures
