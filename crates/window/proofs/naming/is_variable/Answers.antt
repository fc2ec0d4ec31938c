use Rattle.std.proofs.Common.{sym}
use Rattle.window.proofs.GrowthLemmas.{name_found, name_not}
use Rattle.window.proofs.naming.is_variable.Goals as goal

pub loop-variable-preserved : goal.loop-variable-preserved
loop-variable-preserved c = name_not c.args.trace.now.variables c.args.name.now _ c.loop-variable.variable c.variable_name.ensures c.loop-variable.invariant (sym c.if-eq.ensures)

pub returns-then-eq : goal.returns-then-eq
returns-then-eq c = name_found c.args.trace.now.variables c.args.name.now _ c.loop-variable.variable c.variable_name.ensures (sym c.if-eq.ensures)
