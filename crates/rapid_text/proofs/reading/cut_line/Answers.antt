use Rattle.std.proofs.Common.{◌∷◌, sym, ap, ◌∙◌}
use Rattle.std.specs.List.{slice_split, after_first}
use Rattle.rapid_text.specs.Reading.{is_line_feed}
use Rattle.rapid_text.proofs.FirstByte.{some-lines, none-lines, none-before}
use Rattle.rapid_text.proofs.Marked.{marked-before}
use Rattle.rapid_text.proofs.reading.cut_line.Goals as goal

pub returns-in-Some-clause-lines : goal.returns-in-Some-clause-lines
returns-in-Some-clause-lines c =
    some-lines is_line_feed c.args.text.now c.in-Some.ensures.found
    ∙ ap (λ line. line ∷ slice_split is_line_feed (after_first is_line_feed c.args.text.now)) (sym c.in-Some.ensures.before)
    ∙ ap (λ rest. c.in-Some.line.now ∷ slice_split is_line_feed rest) (sym c.in-Some.ensures.after)

pub returns-in-None-clause-lines : goal.returns-in-None-clause-lines
returns-in-None-clause-lines c = none-lines is_line_feed c.args.text.now c.in-None.ensures.none

pub returns-in-Some-clause-marked : goal.returns-in-Some-clause-marked
returns-in-Some-clause-marked c = marked-before is_line_feed c.args.marks c.args.text.now c.in-Some.line.now c.in-Some.ensures.before c.requires

pub returns-in-None-clause-line : goal.returns-in-None-clause-line
returns-in-None-clause-line c = sym (none-before is_line_feed c.args.text.now c.in-None.ensures.none)
