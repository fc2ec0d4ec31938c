-- The number of seats that there may be.
use Rattle.std.specs.Prelude.{◌≡◌, ◌<◌, ◌≤◌, ◌⊎◌, ℕ}
use Rattle.dependence.specs.Limits.{client_limit}
use Rattle.workspace_lock.specs.declared.seats.OpenRefusal.{OpenRefusal}
use Rattle.workspace_lock.specs.declared.seats.OpenRefusal.TheVariants.{BadCount, OutOfMemory}

-- BadCount means that the count is not from 1 to the limit, and OutOfMemory that it is.
abbrev pub IsBadCount : ℕ → OpenRefusal → Type 0
IsBadCount clients BadCount = (clients ≡ 0) ⊎ (client_limit < clients)
IsBadCount clients OutOfMemory = (0 < clients) × (clients ≤ client_limit)
