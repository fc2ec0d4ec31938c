use Rattle.std.proofs.Common.{Ok, sym, ap, subst, ◌∙◌, arith}
use Rattle.std.specs.List.{before_first, slice_split}
use Rattle.rapid_text.specs.Growth.{line_fault, with_line}
use Rattle.rapid_text.specs.LinesLeft.{bytes_left, lines_left}
use Rattle.rapid_text.specs.Reading.{is_line_feed}
use Rattle.rapid_text.specs.Recorded.{recorded, StopsFor}
use Rattle.rapid_text.proofs.Lines.{reading_from, reading_from-end, reading_from-line, reading_of-lines, stopped}
use Rattle.rapid_text.proofs.RoundTrip.{reading_of-canonical}
use Rattle.rapid_text.proofs.reading.parse.Goals as goal

pub loop-left-init : goal.loop-left-init
loop-left-init c = record {
  ready = c.new-recorder.ensures.ready;
  count = omega arith;
  reads = reading_of-lines c.args.text.now ∙ ap (λ r. reading_from (slice_split is_line_feed c.args.text.now) r 0) (sym c.new-recorder.ensures.nothing);
}

pub returns-in-Err-clause-refused : goal.returns-in-Err-clause-refused
returns-in-Err-clause-refused c =
    stopped c.args.text.now (lines_left c.loop-left.left) (before_first is_line_feed c.in-Some.lines.now) (lines_left c.first_line.result.1) (recorded c.loop-left.recorder) c.loop-left.number c.in-Err.stop c.refusal_at.result
    c.loop-left.invariant.reads
    (ap lines_left c.in-Some.is ∙ c.first_line.ensures.lines)
    (subst (λ line. StopsFor (line_fault (recorded c.loop-left.recorder) line) c.in-Err.stop) c.first_line.ensures.line c.in-Err.ensures.refused)
    c.refusal_at.ensures

pub loop-left-preserved : goal.loop-left-preserved
loop-left-preserved c = record {
  ready = c.in_default-record_line.ensures.ready;
  count = omega (arith, c.loop-left.invariant.count, ap bytes_left c.in-Some.is, c.first_line.ensures.shorter);
  reads = c.loop-left.invariant.reads ∙ reading_from-line (lines_left c.loop-left.left) (before_first is_line_feed c.in-Some.lines.now) (lines_left c.first_line.result.1) (recorded c.loop-left.recorder) (recorded c.record_line.new.recorder) c.loop-left.number
      (ap lines_left c.in-Some.is ∙ c.first_line.ensures.lines) (ap (line_fault (recorded c.loop-left.recorder)) (sym c.first_line.ensures.line) ∙ c.in_default-record_line.ensures.allowed)
      (c.in_default-record_line.ensures.ok ∙ ap (with_line (recorded c.loop-left.recorder)) c.first_line.ensures.line);
}

pub finish-requires-clause-reads_back : goal.finish-requires-clause-reads_back
finish-requires-clause-reads_back c =
    let whole = c.loop-left.invariant.reads ∙ ap (λ left. reading_from (lines_left left) (recorded c.loop-left.recorder) c.loop-left.number) c.in_default.is ∙ reading_from-end (recorded c.loop-left.recorder) c.loop-left.number in
    reading_of-canonical c.args.text.now (recorded c.loop-left.recorder) whole

pub returns-clause-read : goal.returns-clause-read
returns-clause-read c =
    c.loop-left.invariant.reads
    ∙ ap (λ left. reading_from (lines_left left) (recorded c.loop-left.recorder) c.loop-left.number) c.in_default.is
    ∙ reading_from-end (recorded c.loop-left.recorder) c.loop-left.number
    ∙ ap Ok (sym c.finish.ensures)
