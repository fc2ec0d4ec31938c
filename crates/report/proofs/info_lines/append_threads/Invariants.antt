-- The lines so far are those of the threads so far.
use Rattle.std.proofs.Common.{◌≡◌, ◌++◌}
use Rattle.report.specs.Info.{thread_lines}
use Rattle.report.proofs.info_lines.append_threads.Given as goal

abbrev pub invariant-loop-thread : goal.invariant-loop-thread
invariant-loop-thread l = l.out.items ≡ l.fn.out.items ++ thread_lines l.indexed l.thread
