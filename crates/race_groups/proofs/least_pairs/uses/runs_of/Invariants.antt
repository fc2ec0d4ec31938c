use Rattle.std.proofs.Common.{◌≡◌, ℕ, ◌+◌, ◌<◌, ◌≤◌, length, slice_index}
use Rattle.race_groups.specs.least_pairs.Uses.{IsRun}
use Rattle.race_groups.proofs.least_pairs.uses.runs_of.Given as goal

abbrev pub invariant-loop-done : goal.invariant-loop-done
invariant-loop-done l =
    record {
      len : length l.runs.items ≡ length l.uses;
      each : (i : ℕ) → length l.uses ≤ i + l.done → i < length l.uses → IsRun l.uses i (slice_index l.runs.items i);
    }
