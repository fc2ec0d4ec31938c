-- Of the parts so far none has events.
use Rattle.std.proofs.Common.{◌≡◌}
use Rattle.calls.specs.triage.Judged.{have_events}
use Rattle.calls.proofs.triage.judged.have_events.Given as goal

abbrev pub invariant-loop-part : goal.invariant-loop-part
invariant-loop-part l = have_events l.part-iterator ≡ have_events l.parts.entries
