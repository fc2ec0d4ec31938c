use Rattle.std.proofs.Common.{◌++◌, List, take_all, ap, ◌∙◌, arith}
use Rattle.explain_report.specs.RunTexts.{tally_lines}
use Rattle.explain_report.specs.declared.folded.Tally.{Tally}
use Rattle.explain_report.proofs.folded.append_each_tally.Goals as goal

pub returns : goal.returns
returns c =
    c.loop-tally.invariant
    ∙ ap (λ (ts : List Tally). c.args.out.now.items ++ tally_lines c.args.indexed.now ts) (take_all c.loop-tally.tally-index c.args.tallies.now (omega arith))
