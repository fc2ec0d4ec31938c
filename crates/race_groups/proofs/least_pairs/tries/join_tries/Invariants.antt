use Rattle.race_groups.proofs.least_pairs.JoinLemmas.{AreTaken}
use Rattle.race_groups.proofs.least_pairs.tries.join_tries.Given as goal

abbrev pub invariant-loop-at : goal.invariant-loop-at
invariant-loop-at l = AreTaken l.most l.part l.fn.tries.items l.tries.items l.at
