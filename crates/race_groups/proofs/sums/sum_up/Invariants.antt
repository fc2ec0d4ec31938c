use Rattle.std.proofs.Common.{length}
use Rattle.race_groups.specs.Counting.{AreSums}
use Rattle.race_groups.proofs.sums.sum_up.Given as goal

abbrev pub invariant-loop-at : goal.invariant-loop-at
invariant-loop-at g l = AreSums l.classed.indexed.now.events (length l.classed.indexed.now.threads) (length l.fn.sums) l.classed.numbers.now l.own l.class (g.C.Cut.end_of l.cut) l.at l.left l.fronts l.sums
