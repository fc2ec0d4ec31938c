-- The parts so far are whole.
use Rattle.std.proofs.Common.{◌≡◌}
use Rattle.calls.specs.triage.Judged.{are_whole}
use Rattle.calls.proofs.triage.judged.are_whole.Given as goal

abbrev pub invariant-loop-part : goal.invariant-loop-part
invariant-loop-part l = are_whole l.part-iterator ≡ are_whole l.parts.entries
