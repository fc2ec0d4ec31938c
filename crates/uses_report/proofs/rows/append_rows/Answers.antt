use Rattle.uses_report.proofs.RowLemmas.{one_row_more}
use Rattle.uses_report.proofs.rows.append_rows.Goals as goal

pub loop-row-preserved : goal.loop-row-preserved
loop-row-preserved c = one_row_more c.args.indexed.now c.args.uses.now c.loop-row.row c.args.out.now.items c.loop-row.out.items _ c.loop-row.invariant c.in_ok-append_row.ensures
