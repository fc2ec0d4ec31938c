use Rattle.std.proofs.Common.{◌≡◌, false, rules}
use Rattle.script_language.specs.LineWords.{is_separator}
use Rattle.script_language.proofs.PartLemmas.{leaves_out-more, leaves_out-end}
use Rattle.script_language.proofs.lines.Words.behind_separator.Goals as goal

pub loop-word-preserved : goal.loop-word-preserved
loop-word-preserved c =
    let other : is_separator c.in-Some.word.now ≡ false = search rules in
    leaves_out-more c.args.self.now c.loop-word.words c.loop-word.invariant c.in-Some.word.now c.next.new.self c.in-Some.ensures.some other

pub returns : goal.returns
returns c = leaves_out-end c.args.self.now c.loop-word.words c.loop-word.invariant c.in_default.ensures.none
