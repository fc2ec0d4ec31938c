use Rattle.race_triage.specs.Settled.{AreMembers}
use Rattle.race_triage.proofs.settling.Settling.members.Given as goal

abbrev pub invariant-loop-at : goal.invariant-loop-at
invariant-loop-at l = AreMembers l.self l.at l.members.items
