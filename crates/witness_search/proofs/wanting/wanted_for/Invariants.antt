use Rattle.std.proofs.Common.{◌≡◌, ◌-◌, length}
use Rattle.witness_search.specs.Searches.{AreFound, IsBegun, IsClosedUpTo}
use Rattle.witness_search.proofs.wanting.wanted_for.Given as goal

abbrev pub invariant-loop-at : goal.invariant-loop-at
invariant-loop-at l =
    record {
      len : length l.wanted.marks.items ≡ length l.indexed.events;
      found : AreFound l.wanted.events.items l.wanted.marks.items;
      begun : IsBegun l.indexed.events l.first l.second l.wanted.events.items;
      closed : IsClosedUpTo l.indexed.events l.at l.wanted.events.items;
    }

abbrev pub decreases-loop-at : goal.decreases-loop-at
decreases-loop-at l = length l.indexed.events - l.at
