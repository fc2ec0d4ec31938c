use Rattle.witness_search.specs.Layout.{AreEnds}
use Rattle.witness_search.proofs.slicing.ends_below.Given as goal

abbrev pub invariant-loop-thread : goal.invariant-loop-thread
invariant-loop-thread l = AreEnds l.indexed.events l.first l.second l.thread l.ends.items
