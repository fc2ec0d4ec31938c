use Rattle.witness_search.specs.trace_order.Tables.{AreWritesUpTo}
use Rattle.witness_search.proofs.trace_order.writing.writes_of.Given as goal

abbrev pub invariant-loop-event : goal.invariant-loop-event
invariant-loop-event l = AreWritesUpTo l.indexed l.event l.writes.items
