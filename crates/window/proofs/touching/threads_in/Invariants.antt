use Rattle.std.proofs.Common.{length}
use Rattle.event_index.specs.Tables.{IsTable}
use Rattle.window.specs.Tables.{has_thread}
use Rattle.window.proofs.touching.threads_in.Given as goal

abbrev pub invariant-loop-event : goal.invariant-loop-event
invariant-loop-event l = IsTable (has_thread l.trace.events l.from l.event) (length l.trace.threads) l.found.items
