use Rattle.std.proofs.Common.{◌≡◌, ◌-◌, ◌≤◌, None, drop, length}
use Rattle.toml.specs.View.{view}
use Rattle.calls.specs.triage.LeavingEntries.{is_met}
use Rattle.calls.proofs.triage.leaving.entries.is_met.Given as goal

abbrev pub invariant-cells : goal.invariant-cells
invariant-cells l =
    (is_met l.rows (view l.entry) l.before (drop l.at l.cells) ≡ is_met l.rows (view l.entry) None l.cells) × (l.at ≤ length l.cells)

abbrev pub decreases-cells : goal.decreases-cells
decreases-cells l = length l.cells - l.at
