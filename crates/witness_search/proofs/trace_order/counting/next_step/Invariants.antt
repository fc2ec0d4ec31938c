use Rattle.std.proofs.Common.{◌≡◌, ℕ, ◌<◌, List, length, get_or, nat_eq, IfSome}
use Rattle.std.specs.HashMap.{get}
use Rattle.event_index.specs.Least.{IsLeastOf}
use Rattle.witness_search.specs.Searches.{IsStepBelow}
use Rattle.witness_search.specs.trace_order.Counting.{IsAt, marks_of}
use Rattle.witness_search.proofs.trace_order.counting.next_step.Given as goal

abbrev pub invariant-loop-thread : goal.invariant-loop-thread
invariant-loop-thread l =
    record {
      within : IfSome l.least (λ e. e < length l.indexed.events);
      least : (P : List ℕ) → IsAt l.indexed.events (λ t. get_or l.aim.start.items t 0) (λ t. get_or l.reached.row.items t 0) (get nat_eq l.reached.last) P
          → IsLeastOf (IsStepBelow l.indexed.events l.aim.first l.aim.second (marks_of l.indexed.events (λ t. get_or l.aim.wanted.items t 0)) P l.thread) l.least;
    }
