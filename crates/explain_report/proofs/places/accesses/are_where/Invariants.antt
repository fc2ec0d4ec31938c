-- Each event with a flag so far is at the first one's place.
use Rattle.std.proofs.Common.{◌≡◌, ℕ, ◌<◌}
use Rattle.explain_report.specs.places.Accesses.{HasFlag, place_of}
use Rattle.explain_report.proofs.places.accesses.are_where.Given as goal

abbrev pub invariant-loop-event : goal.invariant-loop-event
invariant-loop-event l = (e : ℕ) → e < l.event → HasFlag l.flags e → place_of l.indexed e ≡ place_of l.indexed l.first
