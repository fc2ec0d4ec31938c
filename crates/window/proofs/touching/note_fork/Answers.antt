use Rattle.window.proofs.TouchLemmas.{forks_on, forks_off}
use Rattle.window.proofs.touching.note_fork.Goals as goal

pub returns-in-Fork : goal.returns-in-Fork
returns-in-Fork c = forks_on c.args.trace.now.events c.args.from c.args.at _ c.requires.from (rw c.raw.ensures.same at c.event.ensures.found) _ c.in-Fork.thread _ c.in-Fork.is c.requires.table

pub returns-in_default : goal.returns-in_default
returns-in_default c = forks_off c.args.trace.now.events c.args.from c.args.at _ c.requires.from (rw c.raw.ensures.same at c.event.ensures.found) _ _ c.in_default.not-Fork c.requires.table
