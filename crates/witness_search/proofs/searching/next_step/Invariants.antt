use Rattle.event_index.specs.Least.{IsLeastOf}
use Rattle.witness_search.specs.Searches.{IsStepBelow}
use Rattle.witness_search.proofs.searching.next_step.Given as goal

abbrev pub invariant-loop-thread : goal.invariant-loop-thread
invariant-loop-thread l = IsLeastOf (IsStepBelow l.indexed.events l.aim.first l.aim.second l.aim.wanted.items l.schedule.events l.thread) l.least
