-- The lines so far are those of the verdicts so far.
use Rattle.std.proofs.Common.{◌≡◌, ◌++◌, take}
use Rattle.triage_report.specs.lines.Lines.{all_lines}
use Rattle.triage_report.proofs.lines.lines.append_all.Given as goal

abbrev pub invariant-loop-verdict : goal.invariant-loop-verdict
invariant-loop-verdict l = l.out.items ≡ l.fn.out.items ++ all_lines l.analysis l.folder (take l.verdict-index l.verdicts)
