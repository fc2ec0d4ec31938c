use Rattle.event_index.proofs.SectionLemmas.{passed_by}
use Rattle.event_index.proofs.sections.take_in.Goals as goal

pub returns-in-Read : goal.returns-in-Read
returns-in-Read c = passed_by c.args.raw.now c.args.event c.event.result c.args.known.now c.event.ensures.found c.in-Read.is c.requires.known
