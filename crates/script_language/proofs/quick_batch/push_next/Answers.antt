use Rattle.std.proofs.Common.{◌≡◌, false, rules, Some}
use Rattle.std.specs.Prelude.{is_err}
use Rattle.script_language.specs.Scripts.{verb_of}
use Rattle.script_language.specs.declared.verb.Verb.TheVariants.{Do as DoWord}
use Rattle.script_language.proofs.QuickBatchLemmas.{parts_of_command}
use Rattle.script_language.proofs.ReadingLemmas.{is_ok-held}
use Rattle.script_language.proofs.quick_batch.push_next.Goals as goal

pub returns : goal.returns
returns c =
    let next = c.in_ok-command in
    let word = c.in_ok-word.word.now in
    let verb = c.in-Some-Do.verb in
    let is : verb_of word ≡ Some (DoWord verb) = search rules in
    let done : is_err c.push.result ≡ false = search rules in
    record {
      command = next.command;
      parts = parts_of_command c.arguments.new.words next.more c.args.words.now c.next.new.self word verb next.command
          c.in_ok-word.ensures.some is next.ensures;
      pushed = is_ok-held c.push.result done c.push.ensures.ok;
    }
