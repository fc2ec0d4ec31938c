use Rattle.window.proofs.TouchLemmas.{threads_on}
use Rattle.window.proofs.touching.note_thread.Goals as goal

pub returns : goal.returns
returns c = threads_on c.args.trace.now.events c.args.from c.args.at _ c.requires.from (rw c.raw.ensures.same at c.event.ensures.found) _ _ c.requires.table
