use Rattle.std.proofs.Common.{◌<◌, IfSome, length}
use Rattle.deadlock_triage.proofs.searching.next_event.Given as goal

abbrev pub invariant-loop-thread : goal.invariant-loop-thread
invariant-loop-thread l = IfSome l.least (λ e. e < length l.indexed.events)
