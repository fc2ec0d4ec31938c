use Rattle.std.proofs.Common.{sym, subst}
use Rattle.moves.specs.Rising.{Rises}
use Rattle.moves.proofs.rising.settle.Goals as goal

pub settle_first-requires-clause-rises : goal.settle_first-requires-clause-rises
settle_first-requires-clause-rises c = subst Rises (sym c.loop.invariant.same) c.requires
