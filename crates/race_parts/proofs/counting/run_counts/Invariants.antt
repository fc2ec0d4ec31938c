use Rattle.std.proofs.Common.{◌≡◌, ◌+◌, ◌-◌, ◌≤◌, drop, length}
use Rattle.race_parts.specs.Texts.{run_count}
use Rattle.race_parts.proofs.counting.run_counts.Given as goal

abbrev pub invariant-cells : goal.invariant-cells
invariant-cells l =
    (l.races + run_count l.cell 0 (drop l.at l.cells) ≡ run_count l.cell 0 (drop l.from l.cells))
    × (l.undecided + run_count l.cell 1 (drop l.at l.cells) ≡ run_count l.cell 1 (drop l.from l.cells))
    × (l.apart + run_count l.cell 2 (drop l.at l.cells) ≡ run_count l.cell 2 (drop l.from l.cells))
    × ((l.races ≤ l.at) × (l.undecided ≤ l.at) × (l.apart ≤ l.at))
    × (l.at ≤ length l.cells)

abbrev pub decreases-cells : goal.decreases-cells
decreases-cells l = length l.cells - l.at
