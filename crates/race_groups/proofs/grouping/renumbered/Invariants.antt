use Rattle.std.proofs.Common.{◌≡◌, length}
use Rattle.race_groups.specs.Building.{AreAlike}
use Rattle.race_groups.proofs.grouping.renumbered.Given as goal

abbrev pub invariant-loop-at : goal.invariant-loop-at
invariant-loop-at l =
    record {
      len : length l.after.items ≡ l.at;
      same : AreAlike l.numbers l.infos l.after.items l.made l.at;
    }
