use Rattle.std.proofs.Common.{length}
use Rattle.event_index.specs.Tables.{IsTable}
use Rattle.window.specs.Tables.{has_join}
use Rattle.window.proofs.touching.joins_in.Given as goal

abbrev pub invariant-loop-event : goal.invariant-loop-event
invariant-loop-event l = IsTable (has_join l.trace.events l.from l.event) (length l.trace.threads) l.found.items
