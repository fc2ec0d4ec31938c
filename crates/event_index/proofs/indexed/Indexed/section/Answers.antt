use Rattle.event_index.proofs.ReadLemmas.{section_read}
use Rattle.event_index.proofs.indexed.Indexed.section.Goals as goal

pub returns-clause-later : goal.returns-clause-later
returns-clause-later c =
    section_read c.self.inside.trace c.args.self.now c.self.inside.tables c.self.view_is c.self.invariant.disciplined c.self.invariant.tables c.args.event c.index.result.now c.requires c.index.ensures
