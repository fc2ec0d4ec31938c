use Rattle.window.proofs.TouchLemmas.{joins_on, joins_off}
use Rattle.window.proofs.touching.note_join.Goals as goal

pub returns-in-Join : goal.returns-in-Join
returns-in-Join c = joins_on c.args.trace.now.events c.args.from c.args.at _ c.requires.from (rw c.raw.ensures.same at c.event.ensures.found) _ c.in-Join.thread _ c.in-Join.is c.requires.table

pub returns-in_default : goal.returns-in_default
returns-in_default c = joins_off c.args.trace.now.events c.args.from c.args.at _ c.requires.from (rw c.raw.ensures.same at c.event.ensures.found) _ _ c.in_default.not-Join c.requires.table
