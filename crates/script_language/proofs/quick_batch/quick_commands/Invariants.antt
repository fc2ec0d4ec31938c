-- What is left reads behind the commands so far.
use Rattle.std.proofs.Common.{◌≡◌, length}
use Rattle.std.specs.List.{slice_split}
use Rattle.script_language.specs.LineWords.{is_separator}
use Rattle.script_language.specs.QuickBatch.{parts_behind}
use Rattle.script_language.proofs.PartLemmas.{and_then, reading_of}
use Rattle.script_language.proofs.quick_batch.quick_commands.Given as goal

abbrev pub invariant-loop-has_more : goal.invariant-loop-has_more
invariant-loop-has_more l = and_then l.commands (reading_of (parts_behind l.has_more l.left)) ≡ reading_of (slice_split is_separator l.fn.words)

abbrev pub decreases-loop-has_more : goal.decreases-loop-has_more
decreases-loop-has_more l = length (parts_behind l.has_more l.left)
