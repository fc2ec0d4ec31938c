use Rattle.std.proofs.Common.{◌∙◌}
use Rattle.dependence.proofs.NumberLemmas.{found_behind, found_there}
use Rattle.dependence.proofs.numbers.first_above.Goals as goal

pub returns-in-Ok : goal.returns-in-Ok
returns-in-Ok c = c.number_at.ensures ∙ found_behind c.args.entry c.args.numbers.now c.in-Ok.at c.requires c.in-Ok.ensures.position

pub returns-in-Err : goal.returns-in-Err
returns-in-Err c = c.number_at-in-Err.ensures ∙ found_there c.args.entry c.args.numbers.now c.in-Err.at c.requires c.in-Err.ensures.position
