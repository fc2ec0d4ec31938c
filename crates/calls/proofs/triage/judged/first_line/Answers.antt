use Rattle.std.proofs.Common.{take, sym, ap}
use Rattle.rapid_text.specs.Reading.{is_line_feed}
use Rattle.rapid_text.proofs.FirstByte.{none-before, none-list_any, some-position}
use Rattle.calls.proofs.triage.judged.first_line.Goals as goal

pub returns-in-Some : goal.returns-in-Some
returns-in-Some c =
    let text = c.args.text.now in
    ap (λ n. take n text) (sym (some-position is_line_feed text c.in-Some.end c.in-Some.ensures))

pub returns-in-None : goal.returns-in-None
returns-in-None c =
    let text = c.args.text.now in
    sym (none-before is_line_feed text (none-list_any is_line_feed text c.in-None.ensures))
