use Rattle.std.proofs.Common.{length}
use Rattle.event_index.specs.Layout.{IsTable, count_before}
use Rattle.event_index.specs.Lookups.{place_of}
use Rattle.event_index.proofs.scans.places_of.Given as goal

abbrev pub invariant-loop-event : goal.invariant-loop-event
invariant-loop-event l = IsTable (place_of l.raw.events) l.event l.places.items × IsTable (count_before l.raw.events l.event) (length l.raw.threads) l.counts.items
