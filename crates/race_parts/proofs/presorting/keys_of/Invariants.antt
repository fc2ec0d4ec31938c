use Rattle.std.proofs.Common.{◌≡◌, ◌≤◌, ◌-◌, length, map, take, get_or}
use Rattle.race_parts.specs.declared.cells.Cell.{Cell}
use Rattle.race_parts.specs.declared.presorting.Quick.{Quick}
use Rattle.race_parts.proofs.presorting.keys_of.Given as goal

abbrev pub invariant-cells : goal.invariant-cells
invariant-cells l = ((d : Cell) → map (λ (k : Quick). get_or l.cells k.number d) l.keys.items ≡ take l.at l.cells) × (l.at ≤ length l.cells)

abbrev pub decreases-cells : goal.decreases-cells
decreases-cells l = length l.cells - l.at
