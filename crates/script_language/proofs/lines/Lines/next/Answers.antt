use Rattle.std.proofs.Common.{◌+◌, ◌∷◌, take, sym, ap, ◌∙◌}
use Rattle.std.specs.List.{slice_split}
use Rattle.std.proofs.lemmas.List.{take_rest}
use Rattle.rapid_text.specs.Reading.{is_line_feed}
use Rattle.script_language.specs.LinesLeft.{lines_left}
use Rattle.script_language.proofs.LineLemmas.{cut_at_some, cut_at_none}
use Rattle.script_language.proofs.lines.Lines.next.Goals as goal

pub returns-in-Some-clause-some : goal.returns-in-Some-clause-some
returns-in-Some-clause-some c =
    let text = c.in_ok-text.text.now in
    let at = c.in-Some.at in
    sym c.self.view_is
    ∙ ap lines_left c.in_ok-text.was
    ∙ cut_at_some is_line_feed text at c.in-Some.ensures
    ∙ ap (λ rest. take at text ∷ slice_split is_line_feed rest) (sym (take_rest text (at + 1)))

pub returns-in-None-clause-some : goal.returns-in-None-clause-some
returns-in-None-clause-some c =
    sym c.self.view_is ∙ ap lines_left c.in_ok-text.was ∙ cut_at_none is_line_feed c.in_ok-text.text.now c.in-None.ensures
