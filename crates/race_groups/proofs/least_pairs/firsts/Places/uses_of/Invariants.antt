use Rattle.std.proofs.Common.{ℕ, ◌<◌, ◌≤◌, All, length, slice_index, take}
use Rattle.race_groups.specs.least_pairs.Uses.{AreUses, IsBehind}
use Rattle.race_groups.proofs.least_pairs.firsts.Places.uses_of.Given as goal

abbrev pub invariant-loop-event : goal.invariant-loop-event
invariant-loop-event l =
    record {
      uses : AreUses l.self.indexed.now.events (slice_index l.self.places.now) l.variable (take l.event-index l.accesses) l.uses.items;
      behind : (k : ℕ) → l.event-index ≤ k → k < length l.accesses → All (IsBehind (slice_index l.accesses k)) l.uses.items;
    }
