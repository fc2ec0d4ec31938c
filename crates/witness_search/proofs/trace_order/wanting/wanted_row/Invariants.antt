use Rattle.std.proofs.Common.{◌≡◌, ℕ, ◌*◌, ◌-◌, ◌<◌, None, length, get_or, IfSome}
use Rattle.must_order.proofs.RowLemmas.{total}
use Rattle.witness_search.specs.trace_order.Counting.{IsSeeking, IsAhead, IsEndedIn}
use Rattle.witness_search.proofs.trace_order.wanting.wanted_row.Given as goal

abbrev pub invariant-loop-next : goal.invariant-loop-next
invariant-loop-next l =
    record {
      len : length l.row.items ≡ length l.indexed.threads;
      seeking : IsSeeking l.indexed.events l.fn.first l.fn.second (λ t. get_or l.row.items t 0);
      ahead : IfSome l.next (IsAhead l.indexed.events (λ t. get_or l.row.items t 0));
      within : IfSome l.next (λ r. r < length l.indexed.events);
      none : l.next ≡ None → (t : ℕ) → IsEndedIn l.indexed.events (λ t. get_or l.row.items t 0) t;
    }

abbrev pub decreases-loop-next : goal.decreases-loop-next
decreases-loop-next l = length l.indexed.threads * length l.indexed.events - total l.row.items
