-- What is appended so far, and the runs that are left, are the text of all.
use Rattle.std.proofs.Common.{◌≡◌, ◌++◌, ◌≤◌, drop}
use Rattle.explain_report.specs.RunTexts.{each_run_text}
use Rattle.explain_report.proofs.run_lines.append_each_run.Given as goal

abbrev pub invariant-loop-at : goal.invariant-loop-at
invariant-loop-at l =
    l.out.items ++ each_run_text l.indexed l.list l.waiters l.at (drop l.at l.runs)
    ≡ l.fn.out.items ++ each_run_text l.indexed l.list l.waiters l.from (drop l.from l.runs)
