use Rattle.std.proofs.Common.{◌≡◌, ℕ, Some}
use Rattle.event_index.specs.Events.{thread_at}
use Rattle.event_index.specs.Lookups.{events_of}
use Rattle.witness_search.proofs.trace_order.FrontLemmas.{HasNoneUpTo}
use Rattle.witness_search.proofs.trace_order.fronts.front_of.Given as goal

abbrev pub invariant-loop-place : goal.invariant-loop-place
invariant-loop-place l =
    record {
      thread : ℕ;
      of : thread_at l.indexed.events l.event ≡ Some thread;
      are : l.events ≡ events_of l.indexed.events thread;
      none : HasNoneUpTo l.indexed.events l.event l.events l.place;
    }
