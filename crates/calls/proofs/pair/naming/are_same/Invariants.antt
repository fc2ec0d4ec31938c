-- The flags are the same so far.
use Rattle.std.proofs.Common.{◌≡◌, ℕ, ◌<◌, false}
use Rattle.std.specs.List.{slice_index_or}
use Rattle.calls.proofs.pair.naming.are_same.Given as goal

abbrev pub invariant-loop-event : goal.invariant-loop-event
invariant-loop-event l = (e : ℕ) → e < l.event → slice_index_or l.ones e false ≡ slice_index_or l.others e false
