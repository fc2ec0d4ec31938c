use Rattle.std.proofs.Common.{◌∙◌, refl, arith}
use Rattle.std.proofs.lemmas.List.{take_all}
use Rattle.race_parts.proofs.SortLemmas.{keys-more}
use Rattle.race_parts.proofs.presorting.keys_of.Goals as goal

pub cells-preserved : goal.cells-preserved
cells-preserved c = (
  λ d. keys-more c.args.cells.now c.cells.keys.items c.push.new.self.items _ c.cells.at d (c.cells.invariant.0 d) c.in_ok-push.ensures.items refl c.cells-test.true,
  omega (arith, c.cells-test.true),
)

pub returns : goal.returns
returns c d = c.cells.invariant.0 d ∙ take_all c.cells.at c.args.cells.now c.cells-test.false
