-- What is appended, with the steps that are left, is the whole text.
use Rattle.std.proofs.Common.{◌≡◌, ◌++◌, drop, length}
use Rattle.explain_report.specs.Contradicted.{left_out_text, steps_from}
use Rattle.explain_report.proofs.contradicted.append_steps.Given as goal

abbrev pub invariant-loop-at : goal.invariant-loop-at
invariant-loop-at l =
    l.out.items ++ steps_from l.indexed l.pair l.at (drop l.at l.steps)
    ≡ l.fn.out.items ++ (left_out_text l.from ++ steps_from l.indexed l.pair l.from (drop l.from l.steps))
