use Rattle.std.proofs.Common.{◌≡◌, length}
use Rattle.race_groups.specs.least_pairs.Lanes.{AreAccesses}
use Rattle.race_groups.proofs.least_pairs.lanes.accesses_of.Given as goal

abbrev pub invariant-loop-variable : goal.invariant-loop-variable
invariant-loop-variable l =
    record {
      len : length l.accesses.items ≡ l._variable;
      accesses : AreAccesses l.indexed.events 0 l.accesses.items;
    }

abbrev pub invariant-loop-event : goal.invariant-loop-event
invariant-loop-event l =
    record {
      len : length l.accesses.items ≡ length l.indexed.variables;
      accesses : AreAccesses l.indexed.events l.event l.accesses.items;
    }
