use Rattle.std.proofs.Common.{◌+◌, drop, sym, ap, ◌∙◌}
use Rattle.std.proofs.lemmas.List.{take_rest}
use Rattle.rapid_text.specs.Reading.{is_line_feed}
use Rattle.rapid_text.proofs.FirstByte.{none-after, none-list_any, some-position}
use Rattle.calls.proofs.triage.left.behind_first.Goals as goal

pub returns-in-Some : goal.returns-in-Some
returns-in-Some c =
    let text = c.args.text.now in
    take_rest text (c.in-Some.end + 1) ∙ ap (λ n. drop (n + 1) text) (sym (some-position is_line_feed text c.in-Some.end c.in-Some.ensures))

pub returns-in-None : goal.returns-in-None
returns-in-None c =
    let text = c.args.text.now in
    sym (none-after is_line_feed text (none-list_any is_line_feed text c.in-None.ensures))
