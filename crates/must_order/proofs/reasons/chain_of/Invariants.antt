use Rattle.std.proofs.Common.{◌≡◌, ◌⊎◌, ℕ, ◌<◌, ◌≤◌, length, get_or, reverse}
use Rattle.std.specs.List.{All}
use Rattle.must_order.specs.Chains.{IsReason, Lead}
use Rattle.must_order.specs.Joins.{IsLed, IsNeeded, KeepsMarks}
use Rattle.must_order.specs.declared.chains.Reason.TheVariants.{Ended}
use Rattle.must_order.proofs.reasons.chain_of.Given as goal

abbrev pub invariant-loop-event : goal.invariant-loop-event
invariant-loop-event l =
    record {
      led : (l.first ≡ l.event) ⊎ IsLed l.indexed.events l.joins.list.items (get_or l.joins.starts.items l.event 0) l.high l.first l.event;
      within : l.event < length l.indexed.events;
      later : l.event ≤ l.last;
      high : l.high ≤ l.limit;
      leads : Lead l.event (reverse l.steps.items) l.last;
      reasons : All (λ s. IsReason l.indexed.events s.from s.to s.reason) (reverse l.steps.items);
      needs : All (λ s. (p : ℕ) → s.reason ≡ Ended p → IsNeeded l.joins.list.items l.needed.items l.limit p s.to) (reverse l.steps.items);
      marks : KeepsMarks l.fn.needed.items l.needed.items;
    }

abbrev pub decreases-loop-event : goal.decreases-loop-event
decreases-loop-event l = l.event
