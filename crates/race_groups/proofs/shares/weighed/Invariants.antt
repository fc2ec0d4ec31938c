use Rattle.std.proofs.Common.{◌≡◌, slice_index, take}
use Rattle.race_groups.specs.Totals.{weighed_sum}
use Rattle.race_groups.proofs.shares.weighed.Given as goal

abbrev pub invariant-loop-entry : goal.invariant-loop-entry
invariant-loop-entry l = l.sum ≡ weighed_sum (slice_index l.weights) (take l.entry-index l.entries)
