use Rattle.explain_report.proofs.IndentLemmas.{indent_none, indented}
use Rattle.explain_report.proofs.pieces.append_indent.Goals as goal

pub loop-step-init : goal.loop-step-init
loop-step-init c = indent_none _

pub loop-step-preserved : goal.loop-step-preserved
loop-step-preserved c = indented _ _ _ c.loop-step._step c.loop-step.invariant c.in_ok-append_words.ensures
