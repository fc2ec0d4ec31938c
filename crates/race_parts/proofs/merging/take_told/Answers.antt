use Rattle.std.proofs.Common.{◌∙◌}
use Rattle.race_parts.proofs.merging.take_told.Goals as goal

pub returns-in-Err-clause-unchanged : goal.returns-in-Err-clause-unchanged
returns-in-Err-clause-unchanged c = c.take_out.ensures ∙ c.in-Err.ensures.undone
