-- The counts so far are those of the verdicts so far.
use Rattle.std.proofs.Common.{take}
use Rattle.deadlock_report.specs.Counts.{AreCounts}
use Rattle.deadlock_report.proofs.counts.counts_of.Given as goal

abbrev pub invariant-loop-verdict : goal.invariant-loop-verdict
invariant-loop-verdict l = AreCounts l.indexed l.found.nested l.found.is_whole (take l.verdict-index l.found.verdicts.items) l.counts
