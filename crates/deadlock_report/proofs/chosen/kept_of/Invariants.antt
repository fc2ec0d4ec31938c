-- The verdicts so far are those of the verdicts so far that the filters keep.
use Rattle.std.proofs.Common.{◌≡◌, filter, take}
use Rattle.deadlock_report.specs.Chosen.{is_kept}
use Rattle.deadlock_report.proofs.chosen.kept_of.Given as goal

abbrev pub invariant-loop-verdict : goal.invariant-loop-verdict
invariant-loop-verdict l = l.kept.items ≡ filter (is_kept l.analysis l.filters) (take l.verdict-index l.verdicts)
