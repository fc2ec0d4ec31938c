-- The lines so far were read.
use Rattle.std.proofs.Common.{length}
use Rattle.script_language.proofs.ReadingLemmas.{IsUnderway}
use Rattle.script_language.proofs.reading.read_script.Given as goal

abbrev pub invariant-loop-raw : goal.invariant-loop-raw
invariant-loop-raw l = IsUnderway l.text l.lines l.line l.script

abbrev pub decreases-loop-raw : goal.decreases-loop-raw
decreases-loop-raw l = length l.lines
