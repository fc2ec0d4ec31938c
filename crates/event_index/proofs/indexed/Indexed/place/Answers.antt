use Rattle.event_index.proofs.ReadLemmas.{place_read}
use Rattle.event_index.proofs.indexed.Indexed.place.Goals as goal

pub returns-clause-within : goal.returns-clause-within
returns-clause-within c =
    place_read c.self.inside.trace c.args.self.now c.self.inside.tables c.self.view_is c.self.invariant.disciplined c.self.invariant.tables c.args.event c.index.result.now c.requires c.index.ensures
