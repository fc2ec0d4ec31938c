use Rattle.std.proofs.Common.{◌≡◌}
use Rattle.event_index.specs.Layout.{IsTable}
use Rattle.event_index.specs.Lookups.{start_of}
use Rattle.event_index.proofs.grouping.starts_of.Given as goal

abbrev pub invariant-loop-thread : goal.invariant-loop-thread
invariant-loop-thread l = IsTable (start_of l.raw.events) l.thread l.starts.items × (l.start ≡ start_of l.raw.events l.thread)
