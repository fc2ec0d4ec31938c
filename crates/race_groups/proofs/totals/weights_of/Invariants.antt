use Rattle.std.proofs.Common.{◌≡◌, ℕ, ◌==◌, ◌<◌, cond, length, slice_index, take}
use Rattle.race_groups.specs.Totals.{weighed_sum}
use Rattle.race_groups.proofs.totals.weights_of.Given as goal

abbrev pub invariant-loop-entry : goal.invariant-loop-entry
invariant-loop-entry l =
    record {
      len : length l.weights ≡ l.threads;
      counted : (t : ℕ) → t < l.threads → slice_index l.weights t ≡ weighed_sum (λ u. cond (t == u) 1 0) (take l.entry-index l.entries);
    }
