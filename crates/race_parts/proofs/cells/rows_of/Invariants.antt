use Rattle.std.proofs.Common.{◌≡◌, ◌++◌, map}
use Rattle.race_parts.specs.Cells.{row_said, rows_in}
use Rattle.race_parts.proofs.cells.rows_of.Given as goal

abbrev pub invariant-loop-name : goal.invariant-loop-name
invariant-loop-name l = map row_said l.rows.items ++ rows_in l.name-iterator ≡ rows_in l.parts.entries
