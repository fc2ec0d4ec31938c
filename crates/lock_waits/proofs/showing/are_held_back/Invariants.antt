use Rattle.std.proofs.Common.{ℕ, ◌<◌, get_or}
use Rattle.lock_waits.specs.Held.{IsHeldBack}
use Rattle.lock_waits.proofs.showing.are_held_back.Given as goal

abbrev pub invariant-loop-at : goal.invariant-loop-at
invariant-loop-at l = (i : ℕ) → i < l.at → IsHeldBack l.schedule.trace.events l.schedule.events (get_or l.requests i 0)
