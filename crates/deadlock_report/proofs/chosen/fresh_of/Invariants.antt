-- The verdicts so far are those of the verdicts so far that are no known deadlocks.
use Rattle.std.proofs.Common.{◌≡◌, filter, take}
use Rattle.deadlock_report.specs.Chosen.{is_fresh, known_in}
use Rattle.deadlock_report.proofs.chosen.fresh_of.Given as goal

abbrev pub invariant-loop-verdict : goal.invariant-loop-verdict
invariant-loop-verdict l = l.fresh.items ≡ filter (is_fresh l.analysis (known_in l.known)) (take l.verdict-index l.verdicts)
