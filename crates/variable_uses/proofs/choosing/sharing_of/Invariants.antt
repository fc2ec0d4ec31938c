use Rattle.std.proofs.Common.{◌≡◌, length}
use Rattle.variable_uses.specs.Owners.{AreSharingsBefore}
use Rattle.variable_uses.proofs.choosing.sharing_of.Given as goal

abbrev pub invariant-loop-event : goal.invariant-loop-event
invariant-loop-event l =
    record {
      len : length l.sharing.items ≡ length l.indexed.variables;
      sharing : AreSharingsBefore l.indexed.events l.ones l.others l.event l.sharing.items;
    }
