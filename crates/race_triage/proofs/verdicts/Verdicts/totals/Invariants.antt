-- The counts so far are those of the verdicts so far.
use Rattle.std.proofs.Common.{take}
use Rattle.race_triage.specs.Texts.{AreTotals}
use Rattle.race_triage.proofs.verdicts.Verdicts.totals.Given as goal

abbrev pub invariant-loop-verdict : goal.invariant-loop-verdict
invariant-loop-verdict l = AreTotals l.indexed (take l.verdict-index l.self.verdicts.items) l.totals
