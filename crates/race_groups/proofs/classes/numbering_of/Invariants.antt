use Rattle.std.proofs.Common.{◌≡◌, length, slice_index}
use Rattle.race_groups.specs.Building.{AreNumbered}
use Rattle.race_groups.specs.Holding.{AreHeld, AreKnown}
use Rattle.race_groups.proofs.classes.numbering_of.Given as goal

abbrev pub invariant-loop-event : goal.invariant-loop-event
invariant-loop-event l =
    record {
      held : AreHeld l.indexed.events l.event l.held.items;
      len : length l.held.items ≡ length l.indexed.threads;
      known : AreKnown l.indexed.events l.event l.numbering.lists.keys l.numbering.listing.known.items;
      threads : length l.numbering.listing.known.items ≡ length l.indexed.threads;
      numbered : AreNumbered l.indexed.events (slice_index l.places) l.event l.numbering.numbers.items l.numbering.infos.items l.numbering.lists.keys;
    }
