use Rattle.std.proofs.Common.{◌≡◌, ◌+◌, ◌-◌, ◌≤◌, None, drop, length}
use Rattle.race_parts.specs.Texts.{heads_count}
use Rattle.race_parts.proofs.counting.head_counts.Given as goal

abbrev pub invariant-cells : goal.invariant-cells
invariant-cells l =
    (l.races + heads_count 0 l.before (drop l.at l.cells) ≡ heads_count 0 None l.cells)
    × (l.undecided + heads_count 1 l.before (drop l.at l.cells) ≡ heads_count 1 None l.cells)
    × (l.apart + heads_count 2 l.before (drop l.at l.cells) ≡ heads_count 2 None l.cells)
    × ((l.races ≤ l.at) × (l.undecided ≤ l.at) × (l.apart ≤ l.at))
    × (l.at ≤ length l.cells)

abbrev pub decreases-cells : goal.decreases-cells
decreases-cells l = length l.cells - l.at
