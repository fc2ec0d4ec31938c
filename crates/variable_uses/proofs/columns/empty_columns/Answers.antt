use Rattle.std.proofs.Common.{arith}
use Rattle.variable_uses.proofs.HeldLemmas.{empty-push}
use Rattle.variable_uses.proofs.columns.empty_columns.Goals as goal

pub loop-row-preserved : goal.loop-row-preserved
loop-row-preserved c = record {
  len = omega (arith, c.loop-row.invariant.len, c.in_ok-push.ensures.len);
  empty = empty-push c.loop-row.columns.items c.push.new.self.items _ c.loop-row.invariant.empty c.in_ok-push.ensures.items c.new.ensures.items;
}
