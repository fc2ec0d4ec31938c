use Rattle.std.proofs.Common.{◌≡◌, length}
use Rattle.deadlock_triage.proofs.needing.visit_threads.Given as goal

abbrev pub invariant-loop-thread : goal.invariant-loop-thread
invariant-loop-thread l = record { row : length l.row.items ≡ length l.indexed.threads; visited : length l.visited.items ≡ length l.indexed.threads }

abbrev pub invariant-loop-place : goal.invariant-loop-place
invariant-loop-place l = record { row : length l.row.items ≡ length l.indexed.threads; visited : length l.visited.items ≡ length l.indexed.threads }
