-- The verdicts so far are those of the verdicts so far that are wanted.
use Rattle.std.proofs.Common.{◌≡◌, filter, take}
use Rattle.deadlock_report.specs.Chosen.{is_wanted}
use Rattle.deadlock_report.proofs.chosen.wanted_of.Given as goal

abbrev pub invariant-loop-verdict : goal.invariant-loop-verdict
invariant-loop-verdict l = l.wanted.items ≡ filter (is_wanted l.apart) (take l.verdict-index l.verdicts)
