use Rattle.std.proofs.Common.{sym, ◌∙◌, arith}
use Rattle.explain_report.specs.Chains.{is_raced}
use Rattle.explain_report.proofs.RacedLemmas.{find-here, find-past}
use Rattle.explain_report.proofs.raced.raced_of.Goals as goal

pub returns-then-is_raced_step : goal.returns-then-is_raced_step
returns-then-is_raced_step c =
    find-here (is_raced c.args.analysis.now.events) c.args.steps.now c.loop-step.step-index _ (omega arith) c.loop-step.invariant (sym c.is_raced_step.ensures ∙ c.if-is_raced_step.true)

pub loop-step-preserved : goal.loop-step-preserved
loop-step-preserved c =
    find-past (is_raced c.args.analysis.now.events) c.args.steps.now c.loop-step.step-index _ (omega arith) c.loop-step.invariant (sym c.is_raced_step.ensures ∙ c.if-is_raced_step.false)
