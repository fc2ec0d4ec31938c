use Rattle.std.proofs.Common.{length}
use Rattle.event_index.specs.Tables.{IsTable}
use Rattle.window.specs.Tables.{has_fork}
use Rattle.window.proofs.touching.forks_in.Given as goal

abbrev pub invariant-loop-event : goal.invariant-loop-event
invariant-loop-event l = IsTable (has_fork l.trace.events l.from l.event) (length l.trace.threads) l.found.items
