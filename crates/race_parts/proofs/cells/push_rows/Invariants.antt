use Rattle.std.proofs.Common.{◌≡◌, ◌++◌, length, map}
use Rattle.race_parts.specs.Cells.{row_said}
use Rattle.race_parts.specs.Said.{said_in}
use Rattle.race_parts.specs.Lines.{lines_of}
use Rattle.race_parts.proofs.cells.push_rows.Given as goal

abbrev pub invariant-lines : goal.invariant-lines
invariant-lines l = map row_said l.rows.items ++ map (said_in l.name) (lines_of l.rest) ≡ map row_said l.fn.rows.items ++ map (said_in l.name) (lines_of l.text)

abbrev pub decreases-lines : goal.decreases-lines
decreases-lines l = length l.rest
