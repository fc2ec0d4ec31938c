use Rattle.std.proofs.Common.{◌≡◌, length}
use Rattle.deadlock_triage.proofs.needing.needs_of.Given as goal

abbrev pub invariant-loop-at : goal.invariant-loop-at
invariant-loop-at l = length l.row.items ≡ length l.indexed.threads

abbrev pub invariant-loop-round : goal.invariant-loop-round
invariant-loop-round l = record { row : length l.row.items ≡ length l.indexed.threads; visited : length l.visited.items ≡ length l.indexed.threads }
