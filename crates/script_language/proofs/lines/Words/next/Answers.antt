use Rattle.std.proofs.Common.{◌≡◌, false, rules, sym, ◌∙◌}
use Rattle.script_language.specs.LineWords.{words_of, is_separator}
use Rattle.script_language.proofs.PartLemmas.{part-next, line-next}
use Rattle.script_language.proofs.lines.Words.next.Goals as goal
use Rattle.script_language.proofs.lines.Words.next.Goals.{else-self-via-then-self+else-is_separator, else-self-via-else-self}

pub returns-clause-some : goal.returns-clause-some
returns-clause-some c =
    let part = c.self.inside.is_part in
    let words = words_of c.self.inside.rest.now in
    let others = words_of c.in_ok-word.others.now in
    let word = c.in_ok-word.word.now in
    sym c.self.view_is
    ∙ elim c.else-self.branch [
      | else-self-via-then-self+else-is_separator w ↦ (
          let other : is_separator word ≡ false = search rules in
          part-next part words others word c.in_ok-word.ensures.some other
          )
      | else-self-via-else-self w ↦ (
          let whole : part ≡ false = search rules in
          line-next part words others word c.in_ok-word.ensures.some whole
          )
    ]
