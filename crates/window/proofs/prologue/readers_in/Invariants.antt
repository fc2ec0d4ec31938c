use Rattle.std.proofs.Common.{◌≡◌, ◌&&◌, not, filter}
use Rattle.event_index.specs.Lookups.{before}
use Rattle.window.specs.Tables.{has_thread, has_fork}
use Rattle.window.proofs.prologue.readers_in.Given as goal

abbrev pub invariant-loop-thread : goal.invariant-loop-thread
invariant-loop-thread l =
    l.readers.items ≡ filter (λ t. has_thread l.trace.events l.from l.to t && not (has_fork l.trace.events l.from l.to t)) (before l.thread)
