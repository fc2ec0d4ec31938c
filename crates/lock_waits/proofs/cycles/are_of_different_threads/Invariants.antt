use Rattle.std.proofs.Common.{take, AllPairs}
use Rattle.lock_waits.specs.Waits.{AreOfTwoThreads}
use Rattle.lock_waits.proofs.cycles.are_of_different_threads.Given as goal

abbrev pub invariant-loop-at : goal.invariant-loop-at
invariant-loop-at l = AllPairs (AreOfTwoThreads l.indexed.events) (take l.at l.events)
