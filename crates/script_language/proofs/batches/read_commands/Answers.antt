use Rattle.std.proofs.Common.{◌≡◌, Err, rules, sym, ◌∙◌, inr}
use Rattle.std.specs.List.{before_first}
use Rattle.script_language.specs.LineWords.{is_separator}
use Rattle.script_language.specs.Scripts.{command_reading}
use Rattle.script_language.proofs.PartLemmas.{refused-first}
use Rattle.script_language.proofs.batches.read_commands.Goals as goal

pub returns-in_err-command : goal.returns-in_err-command
returns-in_err-command c =
    let words = c.in-Some.words in
    let why = c.in_err-command.field-0.0 in
    let same : c.from_residual.result ≡ Err why = search rules in
    let told : command_reading (before_first is_separator words) ≡ Err why = cc (c.before_separator.ensures, c.in_err-command.ensures) in
    inr (same ∙ sym (refused-first c.loop-words.commands words c.loop-words.left why (sym c.in-Some.ensures.value) told) ∙ c.loop-words.invariant)
