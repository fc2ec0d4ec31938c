use Rattle.std.proofs.Common.{length, refl, arith}
use Rattle.std.proofs.lemmas.Option.{slice_get_read}
use Rattle.variable_uses.proofs.LockLemmas.{IsPut-none, IsPut-set}
use Rattle.variable_uses.proofs.locks.add_to.Goals as goal

pub returns-then-lock-len-clause-put : goal.returns-then-lock-len-clause-put
returns-then-lock-len-clause-put c = IsPut-none c.args.lists.now.items c.args.lock c.args.event (omega (arith, c.if-lock-len.true))

pub returns-clause-put : goal.returns-clause-put
returns-clause-put c =
    let lists = c.args.lists.now.items in
    let u = c.index_mut.result.now in
    let was = slice_get_read lists (length lists) c.args.lock u refl (omega (arith, c.if-lock-len.false)) c.index_mut.ensures.value in
    IsPut-set lists c.args.lock c.args.event u c.add_once.new.events _ was c.in_ok-add_once.ensures refl
