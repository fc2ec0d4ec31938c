-- The causes of the last steps wait.
use Rattle.std.proofs.Common.{◌≡◌, ◌-◌, drop, length}
use Rattle.explain_report.specs.Causes.{waits, waits_for}
use Rattle.explain_report.proofs.causes.add_causes.Given as goal

abbrev pub invariant-loop-passed : goal.invariant-loop-passed
invariant-loop-passed l =
    (waits l.waiting ≡ waits_for l.chains l.depth (drop (length l.steps - l.passed) l.steps) (waits l.fn.waiting))
    × (length l.waiting.told.items ≡ length l.chains)
