-- No event so far has a flag.
use Rattle.std.proofs.Common.{ℕ, ◌<◌}
use Rattle.explain_report.specs.places.Accesses.{HasFlag}
use Rattle.explain_report.proofs.places.accesses.first_flagged.Given as goal

abbrev pub invariant-loop-event : goal.invariant-loop-event
invariant-loop-event l = (e : ℕ) → e < l.event → ¬ HasFlag l.flags e
