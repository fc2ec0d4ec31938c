use Rattle.std.proofs.Common.{◌≡◌, ◌-◌, ◌≤◌, drop, length}
use Rattle.toml.specs.View.{view}
use Rattle.calls.specs.triage.LeavingEntries.{are_named}
use Rattle.calls.proofs.triage.leaving.entries.are_named.Given as goal

abbrev pub invariant-cells : goal.invariant-cells
invariant-cells l =
    (are_named l.rows (view l.entry) l.cell (drop l.at l.cells) ≡ are_named l.rows (view l.entry) l.cell l.cells) × (l.at ≤ length l.cells)

abbrev pub decreases-cells : goal.decreases-cells
decreases-cells l = length l.cells - l.at
