use Rattle.std.proofs.Common.{◌≡◌, ◌≤◌, ◌-◌, ◌++◌, drop, length, map}
use Rattle.race_parts.specs.Cells.{cell_key, keys_from, row_said}
use Rattle.race_parts.proofs.cells.unsorted.Given as goal

abbrev pub invariant-rows : goal.invariant-rows
invariant-rows l =
    (map cell_key l.cells.items ++ keys_from l.at (map row_said (drop l.at l.rows)) ≡ keys_from 0 (map row_said l.rows)) × (l.at ≤ length l.rows)

abbrev pub decreases-rows : goal.decreases-rows
decreases-rows l = length l.rows - l.at
