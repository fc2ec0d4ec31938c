use Rattle.std.proofs.Common.{length}
use Rattle.event_index.specs.Layout.{IsFilled}
use Rattle.event_index.proofs.grouping.grouped_of.Given as goal

abbrev pub invariant-loop-event : goal.invariant-loop-event
invariant-loop-event l = IsFilled l.raw.events (length l.raw.threads) l.event l.grouped.items
