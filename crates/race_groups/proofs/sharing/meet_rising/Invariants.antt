use Rattle.std.proofs.Common.{◌≢◌, ◌<◌, ◌≤◌, ℕ, length, slice_index}
use Rattle.race_groups.proofs.sharing.meet_rising.Given as goal

abbrev pub invariant-loop-at : goal.invariant-loop-at
invariant-loop-at l =
    record {
      within : l.to ≤ length l.second;
      below : (k i : ℕ) → k < l.to → l.at ≤ i → i < length l.first → slice_index l.second k < slice_index l.first i;
      apart : (i k : ℕ) → i < l.at → k < length l.second → slice_index l.first i ≢ slice_index l.second k;
    }
