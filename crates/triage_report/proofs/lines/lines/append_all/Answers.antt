use Rattle.std.proofs.Common.{◌++◌, List, take_all, ap, ◌∙◌, arith}
use Rattle.triage_report.specs.lines.Lines.{all_lines}
use Rattle.race_triage.specs.declared.verdicts.Verdict.{Verdict}
use Rattle.triage_report.proofs.lines.lines.append_all.Goals as goal

pub returns : goal.returns
returns c =
    c.loop-verdict.invariant
    ∙ ap (λ (listed : List Verdict). c.args.out.now.items ++ all_lines c.args.analysis.now c.args.folder.now listed) (take_all c.loop-verdict.verdict-index c.args.verdicts.now (omega arith))
