use Rattle.std.proofs.Common.{ap, ◌∙◌}
use Rattle.std.specs.List.{before_first}
use Rattle.script_language.specs.LineWords.{words_of, is_separator}
use Rattle.script_language.proofs.PartLemmas.{part-before}
use Rattle.script_language.proofs.lines.Words.before_separator.Goals as goal

pub returns : goal.returns
returns c =
    part-before c.self.inside.is_part (words_of c.self.inside.rest.now) ∙ ap (before_first is_separator) c.self.view_is
