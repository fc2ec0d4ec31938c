use Rattle.event_index.proofs.ReadLemmas.{writer_read}
use Rattle.event_index.proofs.indexed.Indexed.last_writer.Goals as goal

pub returns-clause-earlier : goal.returns-clause-earlier
returns-clause-earlier c =
    writer_read c.self.inside.trace c.args.self.now c.self.inside.tables c.self.view_is c.self.invariant.disciplined c.self.invariant.tables c.args.event c.index.result.now c.requires c.index.ensures
