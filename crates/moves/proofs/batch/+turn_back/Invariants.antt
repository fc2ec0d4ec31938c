use Rattle.std.proofs.Common.{length}
use Rattle.moves.proofs.batch.+turn_back.Given as goal

abbrev pub decreases-turn_back : goal.decreases-turn_back
decreases-turn_back l = length l.inverses.now
