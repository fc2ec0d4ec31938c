-- The lines so far are those of the events so far.
use Rattle.std.proofs.Common.{◌≡◌, ◌++◌, take}
use Rattle.explain_report.specs.EventLines.{event_lines}
use Rattle.explain_report.proofs.event_lines.append_events.Given as goal

abbrev pub invariant-loop-event : goal.invariant-loop-event
invariant-loop-event l = l.out.items ≡ l.fn.out.items ++ event_lines l.indexed (take l.event-index l.events)
