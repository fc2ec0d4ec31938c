-- The lines so far are those of the verdicts so far.
use Rattle.std.proofs.Common.{◌≡◌, ◌++◌, take}
use Rattle.triage_report.specs.json.Lines.{verdict_lines}
use Rattle.triage_report.proofs.json.lines.append_verdicts.Given as goal

abbrev pub invariant-loop-verdict : goal.invariant-loop-verdict
invariant-loop-verdict l = l.out.items ≡ l.fn.out.items ++ verdict_lines l.analysis (take l.verdict-index l.verdicts)
