-- No arrow begins before the index.
use Rattle.std.proofs.Common.{◌≡◌, ℕ, ◌<◌, false}
use Rattle.deadlock_triage.specs.Tries.{is_arrow}
use Rattle.deadlock_triage.proofs.tries.is_try.Given as goal

abbrev pub invariant-loop-at : goal.invariant-loop-at
invariant-loop-at l = (k : ℕ) → k < l.at → is_arrow l.location k ≡ false
