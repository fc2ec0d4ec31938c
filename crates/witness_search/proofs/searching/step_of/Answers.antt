use Rattle.std.proofs.Common.{rules, sym, ◌∙◌}
use Rattle.witness_search.proofs.StepLemmas.{IsStepOf-none, IsStepOf-taken, IsStepOf-refused}
use Rattle.witness_search.proofs.searching.step_of.Goals as goal

pub returns-in_default : goal.returns-in_default
returns-in_default c = IsStepOf-none _ (search rules) _ _ _ _ (search rules) _ (search rules)

pub returns-then-is_step : goal.returns-then-is_step
returns-then-is_step c = IsStepOf-taken _ (search rules) _ _ _ _ (search rules) _ _ (search rules) (search rules) (sym c.is_step.ensures ∙ c.if-is_step.true)

pub returns-else-is_step : goal.returns-else-is_step
returns-else-is_step c = IsStepOf-refused _ (search rules) _ _ _ _ (search rules) _ c.in-Some.event (search rules) (sym c.is_step.ensures ∙ c.if-is_step.false)
