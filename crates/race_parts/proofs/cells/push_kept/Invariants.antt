use Rattle.std.proofs.Common.{◌≡◌, ◌++◌, map, take}
use Rattle.race_parts.specs.Cells.{row_said}
use Rattle.race_parts.specs.Kept.{kept_said}
use Rattle.race_parts.proofs.cells.push_kept.Given as goal

abbrev pub invariant-loop-row : goal.invariant-loop-row
invariant-loop-row l = map row_said l.rows.items ≡ map row_said l.fn.rows.items ++ map (kept_said l.name l.text.items) (take l.row-index l.kept.items)
