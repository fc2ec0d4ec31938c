use Rattle.std.proofs.Common.{◌≡◌, length, All}
use Rattle.race_groups.specs.least_pairs.Noting.{IsNothing}
use Rattle.race_groups.proofs.least_pairs.leasts.Search.nothing.Given as goal

abbrev pub invariant-loop-row : goal.invariant-loop-row
invariant-loop-row l = (length l.leasts.items ≡ l._row) × All IsNothing l.leasts.items
