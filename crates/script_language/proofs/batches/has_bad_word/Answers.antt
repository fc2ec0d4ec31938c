use Rattle.std.proofs.Common.{◌≡◌, true, sym, ◌∙◌}
use Rattle.std.specs.List.{before_first}
use Rattle.script_language.specs.LineWords.{is_separator}
use Rattle.script_language.specs.Scripts.{command_reading, is_bad_word}
use Rattle.script_language.proofs.PartLemmas.{bad-first}
use Rattle.script_language.proofs.batches.has_bad_word.Goals as goal

pub returns-then-is_bad_command : goal.returns-then-is_bad_command
returns-then-is_bad_command c =
    let words = c.in-Some.words in
    let bad : is_bad_word (command_reading (before_first is_separator words)) ≡ true = cc (c.before_separator.ensures, c.is_bad_command.ensures, c.if-is_bad_command.true) in
    sym (bad-first words c.loop-words.left (sym c.in-Some.ensures.value) bad) ∙ c.loop-words.invariant
