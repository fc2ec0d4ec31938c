use Rattle.witness_search.specs.trace_order.Tables.{AreReachesUpTo}
use Rattle.witness_search.proofs.trace_order.reaching.reaches_of.Given as goal

abbrev pub invariant-loop-event : goal.invariant-loop-event
invariant-loop-event l = AreReachesUpTo l.indexed.events l.event l.reach.items
