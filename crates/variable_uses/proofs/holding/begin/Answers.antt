use Rattle.std.proofs.Common.{arith, rules}
use Rattle.variable_uses.proofs.HeldLemmas.{AreHeld-push}
use Rattle.variable_uses.proofs.holding.begin.Goals as goal

pub loop-thread-preserved : goal.loop-thread-preserved
loop-thread-preserved c = record {
  len = omega (arith, c.loop-thread.invariant.len, c.in_ok-push.ensures.len);
  held = AreHeld-push c.args.indexed.now.events c.loop-thread.held.items c.push.new.self.items _ c.loop-thread.invariant.held c.in_ok-push.ensures.items (search rules);
}
