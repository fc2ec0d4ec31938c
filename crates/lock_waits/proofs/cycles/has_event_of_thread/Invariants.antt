use Rattle.std.proofs.Common.{◌≢◌, ℕ, ◌<◌, get_or}
use Rattle.event_index.specs.Events.{thread_at}
use Rattle.lock_waits.proofs.cycles.has_event_of_thread.Given as goal

abbrev pub invariant-loop-at : goal.invariant-loop-at
invariant-loop-at l = (i : ℕ) → i < l.at → thread_at l.indexed.events (get_or l.events i 0) ≢ thread_at l.indexed.events l.other
