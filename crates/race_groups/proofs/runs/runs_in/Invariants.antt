use Rattle.std.proofs.Common.{◌≡◌, ℕ, ◌+◌, ◌<◌, ◌≤◌, length, slice_index}
use Rattle.race_groups.specs.Owners.{IsRun}
use Rattle.race_groups.proofs.runs.runs_in.Given as goal

abbrev pub invariant-loop-done : goal.invariant-loop-done
invariant-loop-done l =
    record {
      len : length l.runs.items ≡ length l.classes;
      each : (i : ℕ) → length l.classes ≤ i + l.done → i < length l.classes → IsRun l.owners l.classes i (slice_index l.runs.items i);
    }
