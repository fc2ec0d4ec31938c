-- The lines so far are those of the verdicts so far.
use Rattle.std.proofs.Common.{◌≡◌, ◌++◌, take}
use Rattle.deadlock_report.specs.lines.Lines.{kind_lines}
use Rattle.deadlock_report.proofs.lines.lines.append_kind.Given as goal

abbrev pub invariant-loop-verdict : goal.invariant-loop-verdict
invariant-loop-verdict l =
    l.out.items ≡ l.fn.out.items ++ kind_lines l.analysis l.folder l.kind (take l.verdict-index l.verdicts)
