use Rattle.std.proofs.Common.{length, refl}
use Rattle.std.proofs.lemmas.Option.{slice_get_read}
use Rattle.variable_uses.proofs.HeldLemmas.{AreHeld-let_go, held_there}
use Rattle.variable_uses.proofs.holding.free.Goals as goal

pub let_go-requires : goal.let_go-requires
let_go-requires c =
    let held = c.args.held.now.items in
    let u = c.index_mut.result.now in
    let is = slice_get_read held (length held) c.args.found.thread u refl c.requires.thread c.index_mut.ensures.value in
    held_there c.args.indexed.now.events c.len-len.ensures.disciplined c.args.event c.args.lock c.args.found held u c.requires.found c.requires.held is c.requires.op

pub returns-clause-held : goal.returns-clause-held
returns-clause-held c =
    let held = c.args.held.now.items in
    let u = c.index_mut.result.now in
    let is = slice_get_read held (length held) c.args.found.thread u refl c.requires.thread c.index_mut.ensures.value in
    AreHeld-let_go c.args.indexed.now.events c.len-len.ensures.disciplined c.args.event c.args.found c.requires.found held c.requires.held _ c.let_go.new.locks u c.args.lock is refl c.requires.op c.let_go.ensures
