use Rattle.std.proofs.Common.{◌≡◌, length}
use Rattle.race_groups.specs.Owners.{AreOwnersBelow}
use Rattle.race_groups.proofs.owners.owners_of.Given as goal

abbrev pub invariant-loop-event : goal.invariant-loop-event
invariant-loop-event l = length l.owners.items ≡ length l.classes.infos.items

abbrev pub invariant-loop-event-2 : goal.invariant-loop-event-2
invariant-loop-event-2 l =
    record {
      len : length l.owners.items ≡ length l.classes.infos.items;
      owners : AreOwnersBelow l.indexed.events (length l.indexed.threads) l.classes.numbers.items l.event l.owners.items;
    }
