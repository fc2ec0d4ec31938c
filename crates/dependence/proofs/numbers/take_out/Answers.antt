use Rattle.dependence.proofs.NumberLemmas.{taken_at, taken_none}
use Rattle.dependence.proofs.numbers.take_out.Goals as goal

pub returns-in-Ok : goal.returns-in-Ok
returns-in-Ok c = taken_at c.args.entry c.args.numbers.now.items c.deref.result.now c.remove.new.self.items c.in-Ok.at c.requires c.deref.ensures.value c.in-Ok.ensures.position c.remove.ensures.items

pub returns-in-Err : goal.returns-in-Err
returns-in-Err c = taken_none c.args.entry c.args.numbers.now.items c.deref.result.now c.in-Err.field-0 c.requires c.deref.ensures.value c.in-Err.ensures.position
