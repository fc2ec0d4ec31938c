use Rattle.std.proofs.Common.{◌-◌, ◌≤◌, length, take, All}
use Rattle.race_parts.specs.ReadBack.{IsSmall}
use Rattle.race_parts.proofs.laws.look_at.Given as goal

abbrev pub invariant-cells : goal.invariant-cells
invariant-cells l = (l.at ≤ length l.cells) × All IsSmall (take l.at l.cells)

abbrev pub decreases-cells : goal.decreases-cells
decreases-cells l = length l.cells - l.at
