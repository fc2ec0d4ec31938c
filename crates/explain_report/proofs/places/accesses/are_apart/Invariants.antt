-- No event so far has both flags.
use Rattle.std.proofs.Common.{ℕ, ◌<◌}
use Rattle.explain_report.specs.places.Accesses.{HasFlag}
use Rattle.explain_report.proofs.places.accesses.are_apart.Given as goal

abbrev pub invariant-loop-event : goal.invariant-loop-event
invariant-loop-event l = (e : ℕ) → e < l.event → HasFlag l.one e → ¬ HasFlag l.other e
