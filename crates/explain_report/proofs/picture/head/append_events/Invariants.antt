-- The numbers so far are those of the events so far.
use Rattle.std.proofs.Common.{◌≡◌, ◌++◌, take}
use Rattle.explain_report.specs.picture.Pictures.{spaced_events}
use Rattle.explain_report.proofs.picture.head.append_events.Given as goal

abbrev pub invariant-loop-event : goal.invariant-loop-event
invariant-loop-event l = l.out.items ≡ l.fn.out.items ++ spaced_events (take l.event-index l.events)
