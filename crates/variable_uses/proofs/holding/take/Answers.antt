use Rattle.std.proofs.Common.{length, refl}
use Rattle.std.proofs.lemmas.Option.{slice_get_read}
use Rattle.variable_uses.proofs.HeldLemmas.{AreHeld-take}
use Rattle.variable_uses.proofs.holding.take.Goals as goal

pub returns-clause-held : goal.returns-clause-held
returns-clause-held c =
    let held = c.args.held.now.items in
    let u = c.index_mut.result.now in
    let is = slice_get_read held (length held) c.args.found.thread u refl c.requires.thread c.index_mut.ensures.value in
    AreHeld-take c.args.indexed.now.events c.len-len.ensures.disciplined c.args.event c.args.found c.requires.found held c.requires.held _ c.push.new.self u c.args.lock is refl c.requires.op c.in_ok-push.ensures.items
