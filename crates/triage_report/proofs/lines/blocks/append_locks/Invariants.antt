-- The lines so far are those of the locks so far.
use Rattle.std.proofs.Common.{◌≡◌, ◌++◌, take}
use Rattle.triage_report.specs.lines.Lines.{lock_lines}
use Rattle.triage_report.proofs.lines.blocks.append_locks.Given as goal

abbrev pub invariant-loop-lock : goal.invariant-loop-lock
invariant-loop-lock l = l.out.items ≡ l.fn.out.items ++ lock_lines l.indexed l.place (take l.lock-index l.locks)
