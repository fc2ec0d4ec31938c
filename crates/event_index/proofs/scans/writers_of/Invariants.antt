use Rattle.std.proofs.Common.{length}
use Rattle.event_index.specs.Layout.{IsTable}
use Rattle.event_index.specs.Lookups.{last_writer, last_write, before}
use Rattle.event_index.proofs.scans.writers_of.Given as goal

abbrev pub invariant-loop-event : goal.invariant-loop-event
invariant-loop-event l = IsTable (last_writer l.raw.events) l.event l.writers.items × IsTable (λ x. last_write l.raw.events x (before l.event)) (length l.raw.variables) l.last.items
