use Rattle.std.proofs.Common.{◌≡◌, ◌+◌, ◌-◌, ◌≤◌, None, drop, length}
use Rattle.race_parts.specs.Texts.{heads_count}
use Rattle.race_parts.proofs.counting.heads_count.Given as goal

abbrev pub invariant-cells : goal.invariant-cells
invariant-cells l =
    (l.count + heads_count l.rank l.before (drop l.at l.cells) ≡ heads_count l.rank None l.cells) × (l.count ≤ l.at) × (l.at ≤ length l.cells)

abbrev pub decreases-cells : goal.decreases-cells
decreases-cells l = length l.cells - l.at
