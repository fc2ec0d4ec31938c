-- The count so far is that of the verdicts so far.
use Rattle.std.proofs.Common.{◌≡◌, count_by, take}
use Rattle.race_triage.specs.Pieces.{capped}
use Rattle.deadlock_report.specs.Counts.{is_of}
use Rattle.deadlock_report.specs.declared.kinds.Kind.TheVariants.{Shown}
use Rattle.deadlock_report.proofs.chosen.deadlocks_in.Given as goal

abbrev pub invariant-loop-verdict : goal.invariant-loop-verdict
invariant-loop-verdict l = l.count ≡ capped (count_by (is_of Shown) (take l.verdict-index l.verdicts))
