use Rattle.std.proofs.Common.{length}
use Rattle.event_index.specs.Tables.{IsTable}
use Rattle.window.specs.Made.{touch_count}
use Rattle.window.proofs.touching.touches_in.Given as goal

abbrev pub invariant-loop-event : goal.invariant-loop-event
invariant-loop-event l = IsTable (touch_count l.trace.events l.from l.event) (length l.trace.locks) l.counts.items
