use Rattle.std.proofs.Common.{◌+◌, refl, ap}
use Rattle.dependence.proofs.NumberLemmas.{settled_at}
use Rattle.dependence.proofs.numbers.settle.Goals as goal

pub loop-number-preserved : goal.loop-number-preserved
loop-number-preserved c =
    let inv = c.loop-number.invariant in (
      settled_at c.args.settled.now.keys c.args.tail.now.items c.deref-number-items.result.now c.loop-number.settled.keys c.insert.new.self.keys c.loop-number.number-index _
          c.requires inv.2 c.loop-number-test.true refl inv.0 c.in-Ok.ensures.keys,
      ap (λ n. n + 1) inv.1,
      inv.2,
    )
