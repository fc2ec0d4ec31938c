-- The entries so far are those of the verdicts so far.
use Rattle.std.proofs.Common.{◌≡◌, take}
use Rattle.race_triage.specs.Places.{texts_of}
use Rattle.triage_file.specs.Writing.{race_entries}
use Rattle.triage_file.proofs.writing.add_verdicts.Given as goal

abbrev pub invariant-loop-verdict : goal.invariant-loop-verdict
invariant-loop-verdict l = texts_of l.entries.keys ≡ race_entries l.indexed l.numbers (take l.verdict-index l.verdicts)
