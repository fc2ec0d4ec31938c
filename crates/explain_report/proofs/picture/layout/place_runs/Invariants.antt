-- The boxes so far, and those of the runs that are left, are the boxes of all.
use Rattle.std.proofs.Common.{◌≡◌, ◌++◌, drop, map}
use Rattle.explain_report.specs.picture.Boxes.{boxes_after}
use Rattle.explain_report.specs.picture.Placing.{box_of}
use Rattle.explain_report.proofs.picture.layout.place_runs.Given as goal

abbrev pub invariant-loop-at : goal.invariant-loop-at
invariant-loop-at l =
    map box_of l.all.items ++ boxes_after l.waiters l.shown l.at (drop l.at l.runs) ≡ map box_of l.fn.all.items ++ boxes_after l.waiters l.shown 0 l.runs
