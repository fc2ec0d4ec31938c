-- The blanks so far are those of the steps so far.
use Rattle.std.proofs.Common.{◌≡◌, ◌++◌}
use Rattle.explain_report.specs.Chains.{indent_text}
use Rattle.explain_report.proofs.pieces.append_indent.Given as goal

abbrev pub invariant-loop-step : goal.invariant-loop-step
invariant-loop-step l = l.out.items ≡ l.fn.out.items ++ indent_text l._step
