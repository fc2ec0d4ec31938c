use Rattle.std.proofs.Common.{length}
use Rattle.event_index.specs.Layout.{IsTable, last_before}
use Rattle.event_index.specs.Lookups.{base_of}
use Rattle.event_index.proofs.scans.bases_of.Given as goal

abbrev pub invariant-loop-event : goal.invariant-loop-event
invariant-loop-event l = IsTable (base_of l.raw.events) l.event l.bases.items × IsTable (last_before l.raw.events l.event) (length l.raw.threads) l.last.items
