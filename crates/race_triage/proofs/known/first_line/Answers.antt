use Rattle.std.proofs.Common.{◌+◌, ◌∷◌, take, drop, sym, ap, ◌∙◌}
use Rattle.std.specs.List.{slice_split}
use Rattle.std.proofs.lemmas.List.{take_rest}
use Rattle.rapid_text.specs.Reading.{is_line_feed}
use Rattle.rapid_text.proofs.FirstByte.{none-lines, none-list_any, some-lines, some-list_any, some-position}
use Rattle.race_triage.proofs.known.first_line.Goals as goal

pub returns-in-Some-clause-lines : goal.returns-in-Some-clause-lines
returns-in-Some-clause-lines c =
    let text = c.args.text.now in
    let end = c.in-Some.end in
    some-lines is_line_feed text (some-list_any is_line_feed text end c.in-Some.ensures)
    ∙ ap (λ n. take n text ∷ slice_split is_line_feed (drop (n + 1) text)) (some-position is_line_feed text end c.in-Some.ensures)
    ∙ ap (λ rest. take end text ∷ slice_split is_line_feed rest) (sym (take_rest text (end + 1)))

pub returns-in-None-clause-lines : goal.returns-in-None-clause-lines
returns-in-None-clause-lines c = none-lines is_line_feed c.args.text.now (none-list_any is_line_feed c.args.text.now c.in-None.ensures)
