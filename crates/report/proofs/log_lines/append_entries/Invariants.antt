-- The lines so far are those of the entries so far.
use Rattle.std.proofs.Common.{◌≡◌, ◌++◌}
use Rattle.report.specs.Log.{entry_lines}
use Rattle.report.proofs.log_lines.append_entries.Given as goal

abbrev pub invariant-loop-number : goal.invariant-loop-number
invariant-loop-number l = l.out.items ≡ l.fn.out.items ++ entry_lines l.bench.log l.number
