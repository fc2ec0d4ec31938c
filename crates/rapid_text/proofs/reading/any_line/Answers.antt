use Rattle.std.proofs.Common.{◌∷◌, ap, ◌∙◌}
use Rattle.rapid_text.specs.LinesLeft.{lines_left}
use Rattle.rapid_text.specs.Reading.{line_reading}
use Rattle.rapid_text.proofs.reading.any_line.Goals as goal

pub returns-clause-line : goal.returns-clause-line
returns-clause-line c = c.read_line.ensures ∙ ap line_reading c.cut_line.ensures.line

pub returns-clause-lines : goal.returns-clause-lines
returns-clause-lines c = c.cut_line.ensures.lines ∙ ap (λ l. l ∷ lines_left c.cut_line.result.1) c.cut_line.ensures.line
