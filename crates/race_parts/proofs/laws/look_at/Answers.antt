use Rattle.std.proofs.Common.{arith, rules}
use Rattle.race_parts.proofs.ReportLemmas.{small_more}
use Rattle.race_parts.proofs.laws.look_at.Goals as goal

pub cells-preserved : goal.cells-preserved
cells-preserved c = (
  omega (arith, c.cells-test.true),
  small_more c.args.cells.now _ c.cells.at c.cell_at.result c.cell_at.ensures c.cells.invariant.1 (record { size = search rules; later = search rules; earlier = search rules }),
)
