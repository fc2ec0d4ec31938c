use Rattle.std.proofs.Common.{List, ℕ, ◌++◌, sym, ap, ◌∙◌}
use Rattle.explain_report.proofs.StepLemmas.{step_told, step_waits}
use Rattle.explain_report.proofs.chains.append_next.Goals as goal

pub returns-then-is_later : goal.returns-then-is_later
returns-then-is_later c = λ rest.
    ap (λ (t : List ℕ). c.args.out.now.items ++ t)
    (step_waits c.args.analysis.now c.args.depth c.args.later c.args.step rest (sym c.is_later.ensures ∙ c.if-is_later.true))

pub returns : goal.returns
returns c = λ rest.
    step_told c.args.analysis.now c.args.depth c.args.later c.args.step rest (sym c.is_later.ensures ∙ c.if-is_later.false) c.args.out.now.items _ _
    (simp c.indexed.ensures at c.in_ok-append_later.ensures) c.in_ok-append_step.ensures
