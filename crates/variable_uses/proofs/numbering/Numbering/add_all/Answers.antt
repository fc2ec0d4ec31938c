use Rattle.std.proofs.Common.{◌≡◌, length, subst, arith}
use Rattle.variable_uses.specs.Numbers.{IsNumbered}
use Rattle.variable_uses.proofs.NumberLemmas.{AreNumbers-all}
use Rattle.variable_uses.proofs.numbering.Numbering.add_all.Goals as goal

pub returns : goal.returns
returns c =
    let whole : c.loop-event.event ≡ length c.args.keys.now = omega (arith, c.loop-event-test.false, c.loop-event.auto.event-end) in
    AreNumbers-all c.args.keys.now c.loop-event.slots.items c.loop-event.self (subst (λ n. IsNumbered c.args.keys.now n n c.loop-event.slots.items c.loop-event.self) whole c.loop-event.invariant.numbered)
