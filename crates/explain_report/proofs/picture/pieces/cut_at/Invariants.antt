-- From 42 to 45 bytes are kept.
use Rattle.std.proofs.Common.{◌≤◌}
use Rattle.explain_report.proofs.picture.pieces.cut_at.Given as goal

abbrev pub invariant-loop-step : goal.invariant-loop-step
invariant-loop-step l = (42 ≤ l.at) × (l.at ≤ 45)
