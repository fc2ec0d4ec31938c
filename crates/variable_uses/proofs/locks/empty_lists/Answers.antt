use Rattle.std.proofs.Common.{arith}
use Rattle.variable_uses.proofs.HeldLemmas.{empty-push}
use Rattle.variable_uses.proofs.locks.empty_lists.Goals as goal

pub loop-lock-preserved : goal.loop-lock-preserved
loop-lock-preserved c = record {
  len = omega (arith, c.loop-lock.invariant.len, c.in_ok-push.ensures.len);
  uses = λ numbers. empty-push c.loop-lock.lists.items c.push.new.self.items _ (c.loop-lock.invariant.uses numbers) c.in_ok-push.ensures.items c.new.ensures.items;
}
