use Rattle.workspace_lock.proofs.RowLemmas.{is_in_next}
use Rattle.workspace_lock.proofs.seats.is_one_out.Goals as goal

pub loop-row-preserved : goal.loop-row-preserved
loop-row-preserved c = is_in_next c.args.rows.now c.loop-row.row-index c.row-item.result c.loop-row-test.true c.row-item.is c.if-is_none.ensures c.loop-row.invariant
