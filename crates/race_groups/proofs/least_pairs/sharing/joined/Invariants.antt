use Rattle.race_groups.specs.least_pairs.Going.{AreFoundOf}
use Rattle.race_groups.specs.least_pairs.Joining.{IsBelow}
use Rattle.race_groups.proofs.least_pairs.sharing.joined.Given as goal

abbrev pub invariant-loop-at : goal.invariant-loop-at
invariant-loop-at l = AreFoundOf l.search (IsBelow l.every l.at) l.all.items
