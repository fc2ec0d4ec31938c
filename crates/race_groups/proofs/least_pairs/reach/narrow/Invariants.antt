use Rattle.std.proofs.Common.{ℕ, ◌<◌, ◌≤◌, ◌-◌, slice_index}
use Rattle.race_groups.proofs.least_pairs.reach.narrow.Given as goal

abbrev pub invariant-loop-from : goal.invariant-loop-from
invariant-loop-from l =
    record {
      order : l.from ≤ l.to;
      within : l.to ≤ l._end;
      below : (k : ℕ) → k < l.from → slice_index l.numbers k < l.bound;
      above : (k : ℕ) → l.to ≤ k → k < l._end → l.bound ≤ slice_index l.numbers k;
    }

abbrev pub decreases-loop-from : goal.decreases-loop-from
decreases-loop-from l = l.to - l.from
