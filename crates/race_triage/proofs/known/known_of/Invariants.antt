use Rattle.std.specs.List.{slice_split}
use Rattle.rapid_text.specs.LinesLeft.{bytes_left, lines_left}
use Rattle.rapid_text.specs.Reading.{is_line_feed}
use Rattle.race_triage.specs.Blocks.{IsReadUpTo}
use Rattle.race_triage.proofs.known.known_of.Given as goal

abbrev pub invariant-loop-left : goal.invariant-loop-left
invariant-loop-left l = IsReadUpTo l.places.locations.keys (slice_split is_line_feed l.text) (lines_left l.left) l.block l.known.keys

abbrev pub decreases-loop-left : goal.decreases-loop-left
decreases-loop-left l = bytes_left l.left
