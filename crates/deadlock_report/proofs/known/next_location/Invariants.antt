-- The lines so far have no location and no head.
use Rattle.std.proofs.Common.{◌≡◌}
use Rattle.rapid_text.specs.LinesLeft.{bytes_left, lines_left}
use Rattle.deadlock_report.specs.Known.{locations_in}
use Rattle.deadlock_report.proofs.known.next_location.Given as goal

abbrev pub invariant-loop-left : goal.invariant-loop-left
invariant-loop-left l = locations_in (lines_left l.left) ≡ locations_in (lines_left l.text)

abbrev pub decreases-loop-left : goal.decreases-loop-left
decreases-loop-left l = bytes_left l.left
