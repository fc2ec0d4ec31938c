use Rattle.std.proofs.Common.{◌++◌, List, ℕ, sym, ap, ◌∙◌, arith}
use Rattle.std.proofs.lemmas.List.{drop_all}
use Rattle.must_order.specs.declared.chains.Step.{Step}
use Rattle.explain_report.specs.Chains.{steps_text}
use Rattle.explain_report.proofs.StepLemmas.{steps_end}
use Rattle.explain_report.proofs.chains.append_steps.Goals as goal

pub returns : goal.returns
returns c =
    (simp c.indexed.ensures at c.in_ok-append_later.ensures)
    ∙ ap (λ (t : List ℕ). c.loop-step.out.items ++ t) (steps_end c.args.analysis.now c.args.depth c.loop-step.later)
    ∙ ap (λ (ss : List Step). c.loop-step.out.items ++ steps_text c.args.analysis.now c.args.depth c.loop-step.later ss)
    (sym (drop_all c.loop-step.step-index c.args.steps.now (omega arith)))
    ∙ c.loop-step.invariant
