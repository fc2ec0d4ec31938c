use Rattle.race_groups.specs.Building.{AreElements}
use Rattle.race_groups.proofs.grouping.picked.Given as goal

abbrev pub invariant-loop-number : goal.invariant-loop-number
invariant-loop-number l = AreElements l.infos l.made.items
