use Rattle.std.proofs.Common.{◌≡◌, length}
use Rattle.race_groups.specs.Holding.{AreUnknown}
use Rattle.race_groups.proofs.listing.Listing.new.Given as goal

abbrev pub invariant-loop-thread : goal.invariant-loop-thread
invariant-loop-thread l =
    record {
      len : length l.known.items ≡ l._thread;
      none : AreUnknown l.known.items;
    }
