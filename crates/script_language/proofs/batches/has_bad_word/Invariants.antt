-- Whether a part that is left is bad decides.
use Rattle.std.proofs.Common.{◌≡◌, length}
use Rattle.std.specs.List.{slice_split}
use Rattle.script_language.specs.LineWords.{is_separator}
use Rattle.script_language.specs.WordsLeft.{parts_left}
use Rattle.script_language.proofs.PartLemmas.{has_bad}
use Rattle.script_language.proofs.batches.has_bad_word.Given as goal

abbrev pub invariant-loop-words : goal.invariant-loop-words
invariant-loop-words l = has_bad (parts_left l.left) ≡ has_bad (slice_split is_separator l.fn.words)

abbrev pub decreases-loop-words : goal.decreases-loop-words
decreases-loop-words l = length (parts_left l.left)
