use Rattle.std.proofs.Common.{ℕ, ◌≤◌, ◌<◌, length, get_or}
use Rattle.must_order.specs.Layout.{IsCounted}
use Rattle.witness_search.proofs.trace_order.writing.last_counted.Given as goal

abbrev pub invariant-loop-at : goal.invariant-loop-at
invariant-loop-at l =
    record {
      low : l.at ≤ length l.writes;
      none : (i : ℕ) → l.at ≤ i → i < length l.writes → ¬ IsCounted l.indexed.events (λ t. get_or l.row t 0) (get_or l.writes i 0);
    }

abbrev pub decreases-loop-at : goal.decreases-loop-at
decreases-loop-at l = l.at
