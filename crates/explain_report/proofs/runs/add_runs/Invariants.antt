-- The runs that ended, and those of the events that are left, are the runs of all.
use Rattle.std.proofs.Common.{◌≡◌, ◌++◌, drop}
use Rattle.explain_report.specs.Runs.{runs_after, runs_of}
use Rattle.explain_report.proofs.runs.add_runs.Given as goal

abbrev pub invariant-loop-event : goal.invariant-loop-event
invariant-loop-event l =
    l.runs.items ++ runs_after l.indexed.events l.last (drop l.event-index l.list) ≡ l.fn.runs.items ++ runs_of l.indexed.events l.list
