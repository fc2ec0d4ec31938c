-- the lines so far were answered
use Rattle.std.proofs.Common.{◌≡◌, length}
use Rattle.std.specs.List.{slice_split}
use Rattle.rapid_text.specs.Reading.{is_line_feed}
use Rattle.kept_session.proofs.PieceLemmas.{IsUnderway}
use Rattle.kept_session.proofs.answering.answer_lines.Given as goal

abbrev pub invariant-loop-raw : goal.invariant-loop-raw
invariant-loop-raw l = record {
  trace : l.bench.trace ≡ l.fn.bench.trace;
  underway : IsUnderway l.fn.bench.trace l.client l.first (slice_split is_line_feed l.piece) l.fn.bench.log l.fn.out.items l.fn.block l.lines l.number l.bench.log l.out.items l.block;
}

abbrev pub decreases-loop-raw : goal.decreases-loop-raw
decreases-loop-raw l = length l.lines
