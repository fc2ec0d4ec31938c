use Rattle.std.proofs.Common.{◌≡◌, length}
use Rattle.race_groups.specs.Takers.{AreTakersBelow}
use Rattle.race_groups.proofs.takers.takers_of.Given as goal

abbrev pub invariant-loop-event : goal.invariant-loop-event
invariant-loop-event l = length l.takers.items ≡ length l.indexed.locks

abbrev pub invariant-loop-event-2 : goal.invariant-loop-event-2
invariant-loop-event-2 l =
    record {
      len : length l.takers.items ≡ length l.indexed.locks;
      takers : AreTakersBelow l.indexed.events (length l.indexed.threads) l.event l.takers.items;
    }
