-- The places so far are those of the steps so far.
use Rattle.std.proofs.Common.{◌≡◌}
use Rattle.triage_report.specs.sarif.Flows.{is_step, places_below}
use Rattle.triage_report.proofs.sarif.flows.places_of.Given as goal

abbrev pub invariant-loop-at : goal.invariant-loop-at
invariant-loop-at l = l.places.items ≡ places_below (is_step l.indexed l.steps l.thread) l.at
