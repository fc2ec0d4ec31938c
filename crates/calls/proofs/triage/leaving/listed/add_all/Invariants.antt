-- If the cells that are left have their numbers in a set that keeps these, all have.
use Rattle.std.proofs.Common.{◌-◌, ◌≤◌, List, ℕ, Vec, drop, length}
use Rattle.std.specs.declared.alloc.Global.{Global}
use Rattle.indexmap.specs.IndexSet.{keys}
use Rattle.race_triage.specs.Places.{AreKept}
use Rattle.calls.specs.triage.LeavingListed.{HaveAllPlaces}
use Rattle.calls.proofs.triage.leaving.listed.add_all.Given as goal

abbrev pub invariant-cells : goal.invariant-cells
invariant-cells l =
    ((ks : List (Vec ℕ Global)) → AreKept (keys l.locations) ks → HaveAllPlaces ks (drop l.at l.cells) → HaveAllPlaces ks l.cells) × (l.at ≤ length l.cells)

abbrev pub decreases-cells : goal.decreases-cells
decreases-cells l = length l.cells - l.at
