-- The lines so far are those of the locks so far.
use Rattle.std.proofs.Common.{◌≡◌, ◌++◌, take}
use Rattle.deadlock_report.specs.Texts.{other_lines}
use Rattle.deadlock_report.proofs.requests.append_locks.Given as goal

abbrev pub invariant-loop-lock : goal.invariant-loop-lock
invariant-loop-lock l = l.out.items ≡ l.fn.out.items ++ other_lines l.indexed l.but (take l.lock-index l.locks)
