-- The keys so far and those of the lines that are left are the keys of all lines.
use Rattle.std.proofs.Common.{◌≡◌, ◌||◌, ℕ, List}
use Rattle.std.specs.List.{slice_split}
use Rattle.rapid_text.specs.LinesLeft.{bytes_left, lines_left}
use Rattle.rapid_text.specs.Reading.{is_line_feed}
use Rattle.deadlock_report.specs.Known.{has_key, is_in, known_keys}
use Rattle.deadlock_report.proofs.known.known_of.Given as goal

abbrev pub invariant-loop-left : goal.invariant-loop-left
invariant-loop-left l =
    (key : List ℕ) → (has_key l.known.keys key || is_in (known_keys (lines_left l.left)) key) ≡ is_in (known_keys (slice_split is_line_feed l.text)) key

abbrev pub decreases-loop-left : goal.decreases-loop-left
decreases-loop-left l = bytes_left l.left
