use Rattle.variable_uses.proofs.HeldLemmas.{AreHeld-same}
use Rattle.variable_uses.proofs.holding.note.Goals as goal

pub returns-in_default-released-clause-held : goal.returns-in_default-released-clause-held
returns-in_default-released-clause-held c =
    AreHeld-same c.args.indexed.now.events c.len-len.ensures.disciplined c.args.event c.event-found.result c.event-found.ensures.found c.args.held.now.items c.requires.held (c.in_default.ensures.none search) (c.in_default-released.ensures.none search)
