use Rattle.std.proofs.Common.{take}
use Rattle.closed_order.specs.Steps.{AreTrueSteps}
use Rattle.closed_order.proofs.proving.all_follow.Given as goal

abbrev pub invariant-loop-at : goal.invariant-loop-at
invariant-loop-at l = AreTrueSteps l.analysis.events l.requests (take l.at l.steps)
