use Rattle.std.proofs.Common.{◌≡◌, false, take, bytes_eq}
use Rattle.std.specs.List.{list_any}
use Rattle.window.proofs.naming.is_variable.Given as goal

abbrev pub invariant-loop-variable : goal.invariant-loop-variable
invariant-loop-variable l = list_any (bytes_eq l.name) (take l.variable l.trace.variables) ≡ false
