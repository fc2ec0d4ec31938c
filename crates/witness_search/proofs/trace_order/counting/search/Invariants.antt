use Rattle.std.proofs.Common.{◌≡◌, ◌+◌, ℕ, List, length, get_or, nat_eq}
use Rattle.std.specs.HashMap.{get}
use Rattle.witness_search.specs.Searches.{marked_events}
use Rattle.witness_search.proofs.StepLemmas.{IsSearched}
use Rattle.witness_search.specs.trace_order.Counting.{IsAt, counted_events, marks_of}
use Rattle.witness_search.proofs.trace_order.counting.search.Given as goal

abbrev pub invariant-loop-step : goal.invariant-loop-step
invariant-loop-step l =
    record {
      row : length l.reached.row.items ≡ length l.indexed.threads;
      list : List ℕ;
      at : IsAt l.indexed.events (λ t. get_or l.aim.start.items t 0) (λ t. get_or l.reached.row.items t 0) (get nat_eq l.reached.last) list;
      searched : IsSearched l.indexed.events l.aim.first l.aim.second (marked_events l.indexed.events (marks_of l.indexed.events (λ t. get_or l.aim.wanted.items t 0)))
          (counted_events l.indexed.events (λ t. get_or l.aim.start.items t 0)) l.step list;
      long : length list ≡ length (counted_events l.indexed.events (λ t. get_or l.aim.start.items t 0)) + l.step;
      left : l.left ≡ l.budget;
      all : l.fn.left ≡ l.budget;
    }
