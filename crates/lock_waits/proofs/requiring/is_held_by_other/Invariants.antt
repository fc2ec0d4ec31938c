use Rattle.std.proofs.Common.{ℕ, ◌<◌, get_or}
use Rattle.lock_waits.specs.Required.{IsForeign}
use Rattle.lock_waits.proofs.requiring.is_held_by_other.Given as goal

abbrev pub invariant-loop-at : goal.invariant-loop-at
invariant-loop-at l = (i : ℕ) → i < l.at → ¬ IsForeign l.indexed.events (get_or l.requests i 0) l.event
