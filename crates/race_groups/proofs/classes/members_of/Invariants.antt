use Rattle.std.proofs.Common.{◌≡◌, length}
use Rattle.race_groups.specs.Building.{AreMembersBelow}
use Rattle.race_groups.proofs.classes.members_of.Given as goal

abbrev pub invariant-loop-variable : goal.invariant-loop-variable
invariant-loop-variable l =
    record {
      len : length l.members.items ≡ l._variable;
      members : AreMembersBelow l.infos 0 l.members.items;
    }

abbrev pub invariant-loop-class : goal.invariant-loop-class
invariant-loop-class l =
    record {
      len : length l.members.items ≡ length l.indexed.variables;
      members : AreMembersBelow l.infos l.class l.members.items;
    }
