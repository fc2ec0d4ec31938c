-- What is left reads behind the numbers so far.
use Rattle.std.proofs.Common.{◌≡◌, length}
use Rattle.script_language.specs.Scripts.{numbers_reading}
use Rattle.script_language.proofs.NumberLemmas.{behind}
use Rattle.script_language.proofs.calls.read_numbers.Given as goal

abbrev pub invariant-loop-word : goal.invariant-loop-word
invariant-loop-word l = behind l.numbers (numbers_reading l.words) ≡ numbers_reading l.fn.words

abbrev pub decreases-loop-word : goal.decreases-loop-word
decreases-loop-word l = length l.words
