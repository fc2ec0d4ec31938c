-- The lines so far are those of the rows so far.
use Rattle.std.proofs.Common.{◌≡◌, ◌++◌}
use Rattle.uses_report.specs.Texts.{rows_text}
use Rattle.uses_report.proofs.rows.append_rows.Given as goal

abbrev pub invariant-loop-row : goal.invariant-loop-row
invariant-loop-row l = l.out.items ≡ l.fn.out.items ++ rows_text l.indexed l.uses l.row
