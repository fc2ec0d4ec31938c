use Rattle.std.proofs.Common.{◌<◌, ◌≤◌, ◌-◌, ℕ, length, slice_index}
use Rattle.race_groups.proofs.sharing.place_from.Given as goal

abbrev pub invariant-loop-to : goal.invariant-loop-to
invariant-loop-to l =
    record {
      from : l.from ≤ l.to;
      within : l.to ≤ length l.list;
      below : (k : ℕ) → l.from ≤ k → k < l.to → slice_index l.list k < l.lock;
    }

abbrev pub decreases-loop-to : goal.decreases-loop-to
decreases-loop-to l = length l.list - l.to
