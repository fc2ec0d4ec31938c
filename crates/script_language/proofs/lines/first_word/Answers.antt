use Rattle.std.proofs.Common.{◌≡◌, ◌<◌, sym, ap, ◌∙◌, rules, length}
use Rattle.rapid_text.specs.Reading.{is_blank}
use Rattle.script_language.specs.LineWords.{words_of}
use Rattle.script_language.proofs.WordLemmas.{words-drop, words-empty, words-next}
use Rattle.script_language.proofs.lines.first_word.Goals as goal

pub returns-then-is_empty-clause-none : goal.returns-then-is_empty-clause-none
returns-then-is_empty-clause-none c =
    let rest = c.trim_start-rest.result.now in
    let nothing : length rest ≡ 0 = search rules in
    sym (words-drop is_blank c.args.line.now)
    ∙ ap words_of (sym c.trim_start-rest.ensures)
    ∙ words-empty is_blank rest nothing

pub returns-clause-some : goal.returns-clause-some
returns-clause-some c =
    let rest = c.trim_start-rest.result.now in
    let some : 0 < length rest = search rules in
    let first = words-next is_blank c.args.line.now rest c.trim_start-rest.ensures some in
    cc (first, c.word_len.ensures.word, c.split_at.ensures.front, c.split_at.ensures.back)
