use Rattle.std.proofs.Common.{◌≡◌}
use Rattle.variable_uses.specs.Columns.{totals_of}
use Rattle.variable_uses.proofs.columns.totals_of.Given as goal

abbrev pub invariant-loop-lock : goal.invariant-loop-lock
invariant-loop-lock l = l.totals.items ≡ totals_of l.lists l.lock
