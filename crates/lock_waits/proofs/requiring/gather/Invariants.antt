use Rattle.std.proofs.Common.{◌≡◌, ℕ, ◌*◌, ◌-◌, ◌≤◌, None, length, get_or, IfSome}
use Rattle.must_order.proofs.RowLemmas.{total}
use Rattle.witness_search.specs.trace_order.Layout.{IsBehind}
use Rattle.lock_waits.specs.Gathering.{IsGathering}
use Rattle.lock_waits.proofs.requiring.gather.Given as goal

abbrev pub invariant-loop-next : goal.invariant-loop-next
invariant-loop-next l =
    record {
      row : length l.row.items ≡ length l.indexed.threads;
      visited : length l.visited.items ≡ length l.indexed.threads;
      found : IfSome l.next (IsBehind l.row.items l.visited.items);
      none : l.next ≡ None → (t : ℕ) → get_or l.row.items t 0 ≤ get_or l.visited.items t 0;
      gathering : IsGathering l.indexed.events l.requests (length l.requests) (λ t. get_or l.row.items t 0) (λ t. get_or l.visited.items t 0);
    }

abbrev pub decreases-loop-next : goal.decreases-loop-next
decreases-loop-next l = length l.indexed.threads * length l.indexed.events - total l.visited.items
