use Rattle.std.proofs.Common.{length}
use Rattle.event_index.specs.Layout.{IsTable, fork_before}
use Rattle.event_index.proofs.scans.forks_of.Given as goal

abbrev pub invariant-loop-event : goal.invariant-loop-event
invariant-loop-event l = IsTable (fork_before l.raw.events l.event) (length l.raw.threads) l.forks.items
