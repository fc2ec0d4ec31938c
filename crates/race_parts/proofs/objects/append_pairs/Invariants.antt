use Rattle.std.proofs.Common.{◌≡◌, ◌-◌, ◌≤◌, ◌++◌, None, drop, length}
use Rattle.race_parts.specs.Objects.{pair_lines}
use Rattle.race_parts.proofs.objects.append_pairs.Given as goal

abbrev pub invariant-cells : goal.invariant-cells
invariant-cells l =
    (l.out.items ++ pair_lines l.parts l.before (drop l.at l.cells) ≡ l.fn.out.items ++ pair_lines l.parts None l.cells) × (l.at ≤ length l.cells)

abbrev pub decreases-cells : goal.decreases-cells
decreases-cells l = length l.cells - l.at
