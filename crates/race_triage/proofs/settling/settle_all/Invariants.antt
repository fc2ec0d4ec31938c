use Rattle.std.proofs.Common.{◌≡◌, length}
use Rattle.race_triage.specs.Settled.{AreCorrect}
use Rattle.race_triage.proofs.settling.settle_all.Given as goal

abbrev pub invariant-loop-at : goal.invariant-loop-at
invariant-loop-at l = AreCorrect l.found l.verdicts.items × (length l.verdicts.items ≡ l.at-end)
