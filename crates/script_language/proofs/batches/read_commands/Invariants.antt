-- What is left reads behind the commands so far.
use Rattle.std.proofs.Common.{◌≡◌, length}
use Rattle.std.specs.List.{slice_split}
use Rattle.script_language.specs.LineWords.{is_separator}
use Rattle.script_language.specs.WordsLeft.{parts_left}
use Rattle.script_language.proofs.PartLemmas.{and_then, reading_of}
use Rattle.script_language.proofs.batches.read_commands.Given as goal

abbrev pub invariant-loop-words : goal.invariant-loop-words
invariant-loop-words l = and_then l.commands (reading_of (parts_left l.left)) ≡ reading_of (slice_split is_separator l.fn.words)

abbrev pub decreases-loop-words : goal.decreases-loop-words
decreases-loop-words l = length (parts_left l.left)
