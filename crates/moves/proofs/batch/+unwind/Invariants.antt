use Rattle.std.proofs.Common.{length}
use Rattle.moves.proofs.batch.+unwind.Given as goal

abbrev pub decreases-unwind : goal.decreases-unwind
decreases-unwind l = length l.inverses.items
