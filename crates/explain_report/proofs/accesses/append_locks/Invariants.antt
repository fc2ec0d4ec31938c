-- The lines so far are those of the locks so far.
use Rattle.std.proofs.Common.{◌≡◌, ◌++◌, take}
use Rattle.explain_report.specs.Accesses.{lock_lines}
use Rattle.explain_report.proofs.accesses.append_locks.Given as goal

abbrev pub invariant-loop-lock : goal.invariant-loop-lock
invariant-loop-lock l = l.out.items ≡ l.fn.out.items ++ lock_lines l.indexed (take l.lock-index l.locks)
