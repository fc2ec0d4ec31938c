use Rattle.std.proofs.Common.{◌≡◌, ℕ, ◌*◌, ◌-◌, ◌<◌, None, length, get_or, IfSome}
use Rattle.must_order.proofs.RowLemmas.{total}
use Rattle.witness_search.specs.trace_order.Joining.{IsJoined, IsDue, IsClosedOn}
use Rattle.witness_search.specs.trace_order.Layout.{IsEither}
use Rattle.witness_search.proofs.trace_order.joining.joined_row.Given as goal

abbrev pub invariant-loop-next : goal.invariant-loop-next
invariant-loop-next l =
    record {
      len : length l.row.items ≡ length l.indexed.threads;
      joined : IsJoined l.indexed.events (IsEither l.fn.first l.fn.second) (λ t. get_or l.row.items t 0);
      due : IfSome l.next (λ d. IsDue l.indexed.events (λ t. get_or l.row.items t 0) d.end);
      within : IfSome l.next (λ d. d.end < length l.indexed.events);
      none : l.next ≡ None → (k : ℕ) → IsClosedOn l.indexed.events (λ t. get_or l.row.items t 0) k;
    }

abbrev pub decreases-loop-next : goal.decreases-loop-next
decreases-loop-next l = length l.indexed.threads * length l.indexed.events - total l.row.items
