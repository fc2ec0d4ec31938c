use Rattle.std.proofs.Common.{subst, sym}
use Rattle.dependence.specs.Rising.{Rises}
use Rattle.dependence.proofs.numbers.Numbers.settle_all.Goals as goal

pub invariant_of-self : goal.invariant_of-self
invariant_of-self c = subst Rises (sym c.settle.ensures) c.self.invariant
