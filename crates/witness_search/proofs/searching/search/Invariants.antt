use Rattle.std.proofs.Common.{◌≡◌, ◌+◌, length}
use Rattle.witness_search.specs.Searches.{marked_events}
use Rattle.witness_search.proofs.StepLemmas.{IsSearched}
use Rattle.witness_search.proofs.searching.search.Given as goal

abbrev pub invariant-loop-step : goal.invariant-loop-step
invariant-loop-step l =
    record {
      trace : l.schedule.trace ≡ l.indexed;
      searched : IsSearched l.indexed.events l.aim.first l.aim.second (marked_events l.indexed.events l.aim.wanted.items) l.fn.schedule.events l.step l.schedule.events;
      long : length l.schedule.events ≡ length l.fn.schedule.events + l.step;
      left : l.left ≡ l.budget;
      all : l.fn.left ≡ l.budget;
    }
