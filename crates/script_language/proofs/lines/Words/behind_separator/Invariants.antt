-- No word so far is a separator.
use Rattle.std.proofs.Common.{length}
use Rattle.script_language.proofs.PartLemmas.{LeavesOut}
use Rattle.script_language.proofs.lines.Words.behind_separator.Given as goal

abbrev pub invariant-loop-word : goal.invariant-loop-word
invariant-loop-word l = LeavesOut l.self l.words

abbrev pub decreases-loop-word : goal.decreases-loop-word
decreases-loop-word l = length l.words
