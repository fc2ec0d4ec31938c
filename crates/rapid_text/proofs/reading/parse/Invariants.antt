-- The lines so far said the recording, and what is left says the rest.
use Rattle.std.proofs.Common.{◌≡◌, ◌+◌, ◌≤◌, length}
use Rattle.rapid_text.specs.LinesLeft.{bytes_left, lines_left}
use Rattle.rapid_text.specs.Reading.{reading_of}
use Rattle.rapid_text.specs.Recorded.{recorded, IsReady}
use Rattle.rapid_text.proofs.Lines.{reading_from}
use Rattle.rapid_text.proofs.reading.parse.Given as goal

abbrev pub invariant-loop-left : goal.invariant-loop-left
invariant-loop-left l = record {
  ready : IsReady l.recorder;
  count : l.number + bytes_left l.left ≤ length l.text + 1;
  reads : reading_of l.text ≡ reading_from (lines_left l.left) (recorded l.recorder) l.number;
}

abbrev pub decreases-loop-left : goal.decreases-loop-left
decreases-loop-left l = bytes_left l.left
