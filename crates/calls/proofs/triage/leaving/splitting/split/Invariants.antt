-- What stays and what is left out of the cells so far, and of those that are left.
use Rattle.std.proofs.Common.{◌≡◌, ◌-◌, ◌≤◌, ◌++◌, false, None, drop, length}
use Rattle.calls.specs.triage.LeavingSplitting.{drops_first, leaving, staying}
use Rattle.calls.proofs.triage.leaving.splitting.split.Given as goal

abbrev pub invariant-cells : goal.invariant-cells
invariant-cells l =
    (l.stay.items ++ staying (drops_first l.rows l.test) l.before l.is_out (drop l.at l.cells)
    ≡ staying (drops_first l.rows l.test) None false l.cells)
    × (l.gone.items ++ leaving (drops_first l.rows l.test) l.before (drop l.at l.cells)
    ≡ leaving (drops_first l.rows l.test) None l.cells)
    × (l.at ≤ length l.cells)

abbrev pub decreases-cells : goal.decreases-cells
decreases-cells l = length l.cells - l.at
