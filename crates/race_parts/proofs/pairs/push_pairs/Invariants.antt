use Rattle.std.proofs.Common.{◌≡◌, ◌-◌, ◌≤◌, ◌++◌, None, drop, length, map}
use Rattle.race_parts.specs.Pairs.{pair_shown, pairs_told}
use Rattle.race_parts.proofs.pairs.push_pairs.Given as goal

abbrev pub invariant-cells : goal.invariant-cells
invariant-cells l =
    (map pair_shown l.pairs.items ++ pairs_told l.rows l.rank l.before (drop l.at l.cells) ≡ map pair_shown l.fn.pairs.items ++ pairs_told l.rows l.rank None l.cells)
    × (l.at ≤ length l.cells)

abbrev pub decreases-cells : goal.decreases-cells
decreases-cells l = length l.cells - l.at
