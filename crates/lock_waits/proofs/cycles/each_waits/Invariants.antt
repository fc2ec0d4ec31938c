use Rattle.std.proofs.Common.{ℕ, ◌+◌, ◌<◌, get_or}
use Rattle.lock_waits.specs.Waits.{WaitsFor}
use Rattle.lock_waits.proofs.cycles.each_waits.Given as goal

abbrev pub invariant-loop-at : goal.invariant-loop-at
invariant-loop-at l = (i : ℕ) → i < l.at → WaitsFor l.analysis.events (get_or l.requests i 0) (get_or l.requests (i + 1) 0)
