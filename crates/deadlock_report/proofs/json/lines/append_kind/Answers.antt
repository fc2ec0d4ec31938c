use Rattle.std.proofs.Common.{◌++◌, List, take_all, ap, ◌∙◌, arith}
use Rattle.deadlock_triage.specs.declared.outcomes.Verdict.{Verdict}
use Rattle.deadlock_report.specs.json.Lines.{kind_lines}
use Rattle.deadlock_report.proofs.json.lines.append_kind.Goals as goal

pub returns : goal.returns
returns c =
    c.loop-verdict.invariant
    ∙ ap (λ (listed : List Verdict). c.args.out.now.items ++ kind_lines c.args.analysis.now c.args.kind listed)
    (take_all c.loop-verdict.verdict-index c.args.verdicts.now (omega arith))
