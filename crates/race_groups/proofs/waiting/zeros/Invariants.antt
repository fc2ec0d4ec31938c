use Rattle.std.proofs.Common.{◌≡◌, ℕ}
use Rattle.race_groups.specs.Waiting.{cell_at}
use Rattle.race_groups.proofs.waiting.zeros.Given as goal

abbrev pub invariant-loop-place : goal.invariant-loop-place
invariant-loop-place l = (p q : ℕ) → cell_at l.cells.items q p ≡ 0
