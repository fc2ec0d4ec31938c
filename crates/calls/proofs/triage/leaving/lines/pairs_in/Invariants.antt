use Rattle.std.proofs.Common.{◌≡◌, ◌+◌, ◌-◌, ◌≤◌, None, drop, length}
use Rattle.race_parts.specs.Objects.{news_count}
use Rattle.calls.proofs.triage.leaving.lines.pairs_in.Given as goal

abbrev pub invariant-cells : goal.invariant-cells
invariant-cells l =
    (l.count + news_count l.before (drop l.at l.cells) ≡ news_count None l.cells) × (l.count ≤ l.at) × (l.at ≤ length l.cells)

abbrev pub decreases-cells : goal.decreases-cells
decreases-cells l = length l.cells - l.at
