-- What is told so far, and the lines of those that are left, are the lines of all.
use Rattle.std.proofs.Common.{◌≡◌, ◌++◌, drop, None}
use Rattle.explain_report.specs.Chains.{steps_text}
use Rattle.explain_report.proofs.chains.append_steps.Given as goal

abbrev pub invariant-loop-step : goal.invariant-loop-step
invariant-loop-step l =
    l.out.items ++ steps_text l.analysis l.depth l.later (drop l.step-index l.steps) ≡ l.fn.out.items ++ steps_text l.analysis l.depth None l.steps
