use Rattle.std.proofs.Common.{◌≡◌, filter, length}
use Rattle.event_index.specs.Lookups.{before}
use Rattle.inverse_log.specs.Next.{is_next_below}
use Rattle.inverse_log.proofs.races.sorted_next.Given as goal

abbrev pub invariant-loop-thread : goal.invariant-loop-thread
invariant-loop-thread l =
    l.next.keys ≡ filter (is_next_below l.indexed.events l.schedule.events l.thread) (before (length l.indexed.events))
