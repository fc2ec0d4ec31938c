use Rattle.std.proofs.Common.{get_or}
use Rattle.witness_search.specs.trace_order.Layout.{IsCountedUpTo}
use Rattle.witness_search.proofs.trace_order.listing.list_of.Given as goal

abbrev pub invariant-loop-event : goal.invariant-loop-event
invariant-loop-event l = IsCountedUpTo l.indexed.events (λ t. get_or l.row t 0) l.event l.list
