use Rattle.std.proofs.Common.{ℕ, ◌++◌, drop, ap, ◌∙◌, arith}
use Rattle.explain_report.specs.Contradicted.{left_out_text, steps_from}
use Rattle.explain_report.proofs.ContradictedLemmas.{steps_end, steps_more}
use Rattle.explain_report.proofs.contradicted.append_steps.Goals as goal

pub loop-at-preserved : goal.loop-at-preserved
loop-at-preserved c =
    steps_more c.args.indexed.now c.args.pair c.args.steps.now c.loop-at.at _ c.loop-at.out.items c.append_step.new.out.items
    (omega (arith, c.loop-at-test.true, c.loop-at.auto.at-end)) c.in_ok-append_step.ensures
    ∙ c.loop-at.invariant

pub returns : goal.returns
returns c =
    steps_end c.args.indexed.now c.args.pair c.args.steps.now c.loop-at.at c.loop-at.out.items (omega (arith, c.loop-at-test.false, c.loop-at.auto.at-end))
    ∙ c.loop-at.invariant
    ∙ ap (λ (n : ℕ). c.args.out.now.items ++ (left_out_text n ++ steps_from c.args.indexed.now c.args.pair n (drop n c.args.steps.now))) c.saturating_sub-from.ensures
