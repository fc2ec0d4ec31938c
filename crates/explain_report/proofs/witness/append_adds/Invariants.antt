-- The lines so far are those of the events so far.
use Rattle.std.proofs.Common.{◌≡◌, ◌++◌, take}
use Rattle.explain_report.specs.Witnesses.{add_lines}
use Rattle.explain_report.proofs.witness.append_adds.Given as goal

abbrev pub invariant-loop-event : goal.invariant-loop-event
invariant-loop-event l = l.out.items ≡ l.fn.out.items ++ add_lines (take l.event-index l.events)
