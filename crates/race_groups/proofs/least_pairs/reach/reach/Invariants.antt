use Rattle.std.proofs.Common.{ℕ, ◌<◌, ◌≤◌, slice_index}
use Rattle.race_groups.proofs.least_pairs.reach.reach.Given as goal

abbrev pub invariant-loop-step : goal.invariant-loop-step
invariant-loop-step l =
    record {
      within : l.high ≤ l.end;
      step : 0 < l.step;
      above : (k : ℕ) → l.high ≤ k → k < l.end → l.bound ≤ slice_index l.numbers k;
    }

abbrev pub decreases-loop-step : goal.decreases-loop-step
decreases-loop-step l = l.high
