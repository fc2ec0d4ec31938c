use Rattle.std.proofs.Common.{sym}
use Rattle.window.proofs.GrowthLemmas.{name_found, name_not}
use Rattle.window.proofs.naming.is_lock.Goals as goal

pub loop-lock-preserved : goal.loop-lock-preserved
loop-lock-preserved c = name_not c.args.trace.now.locks c.args.name.now _ c.loop-lock.lock c.lock_name.ensures c.loop-lock.invariant (sym c.if-eq.ensures)

pub returns-then-eq : goal.returns-then-eq
returns-then-eq c = name_found c.args.trace.now.locks c.args.name.now _ c.loop-lock.lock c.lock_name.ensures (sym c.if-eq.ensures)
