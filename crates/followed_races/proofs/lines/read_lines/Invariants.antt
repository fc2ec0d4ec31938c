-- What was read so far, and what is left.
use Rattle.std.proofs.Common.{◌≤◌, length}
use Rattle.followed_races.proofs.LineLemmas.{IsReading}
use Rattle.followed_races.specs.Lines.{line_count_limit}
use Rattle.followed_races.proofs.lines.read_lines.Given as goal

abbrev pub invariant-loop-rest : goal.invariant-loop-rest
invariant-loop-rest l = IsReading l.fn.text l.rest l.found.items × (length l.found.items ≤ line_count_limit)

abbrev pub decreases-loop-rest : goal.decreases-loop-rest
decreases-loop-rest l = length l.rest
