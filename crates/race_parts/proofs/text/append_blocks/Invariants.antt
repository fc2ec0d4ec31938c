use Rattle.std.proofs.Common.{◌≡◌, ◌-◌, ◌≤◌, ◌++◌, None, drop, length}
use Rattle.race_parts.specs.Texts.{blocks_text}
use Rattle.race_parts.proofs.text.append_blocks.Given as goal

abbrev pub invariant-cells : goal.invariant-cells
invariant-cells l =
    (l.out.items ++ blocks_text l.parts l.rows l.rank l.before (drop l.at l.cells) ≡ l.fn.out.items ++ blocks_text l.parts l.rows l.rank None l.cells)
    × (l.at ≤ length l.cells)

abbrev pub decreases-cells : goal.decreases-cells
decreases-cells l = length l.cells - l.at
