-- Each event up to the index is greater than the one before it.
use Rattle.std.proofs.Common.{ℕ, ◌<◌, ◌-◌, get_or}
use Rattle.deadlock_triage.proofs.judging.is_rising.Given as goal

abbrev pub invariant-loop-at : goal.invariant-loop-at
invariant-loop-at l = (k : ℕ) → k < l.at → 0 < k → get_or l.events (k - 1) 0 < get_or l.events k 0
