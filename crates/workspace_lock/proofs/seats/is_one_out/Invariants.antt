use Rattle.std.proofs.Common.{◌≡◌, ℕ, ◌<◌, Some, slice_get}
use Rattle.workspace_lock.specs.Seating.{SeatView}
use Rattle.workspace_lock.proofs.seats.is_one_out.Given as goal

abbrev pub invariant-loop-row : goal.invariant-loop-row
invariant-loop-row l = (i : ℕ) → i < l.row-index → (c : SeatView) × (slice_get l.rows i ≡ Some (Some c))
