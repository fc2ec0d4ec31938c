use Rattle.std.specs.List.{slice_split}
use Rattle.rapid_text.specs.LinesLeft.{bytes_left, lines_left}
use Rattle.rapid_text.specs.Reading.{is_line_feed}
use Rattle.race_triage.specs.Blocks.{AreAhead}
use Rattle.race_triage.proofs.known.has_block.Given as goal

abbrev pub invariant-loop-left : goal.invariant-loop-left
invariant-loop-left l = AreAhead (slice_split is_line_feed l.text) (lines_left l.left) l.block

abbrev pub decreases-loop-left : goal.decreases-loop-left
decreases-loop-left l = bytes_left l.left
