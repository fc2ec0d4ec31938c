use Rattle.std.proofs.Common.{◌∷◌, sym, ap, ◌∙◌}
use Rattle.std.specs.List.{before_first, slice_split}
use Rattle.rapid_text.specs.Reading.{is_line_feed}
use Rattle.rapid_text.proofs.FirstByte.{some-lines}
use Rattle.rapid_text.proofs.reading.first_line.Goals as goal

pub returns-in-Some-clause-lines : goal.returns-in-Some-clause-lines
returns-in-Some-clause-lines c =
    let text = c.args.text.now in
    some-lines is_line_feed text c.in-Some.ensures.found
    ∙ ap (λ rest. before_first is_line_feed text ∷ slice_split is_line_feed rest) (sym c.in-Some.ensures.after)
