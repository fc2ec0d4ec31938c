-- What a run of calls leaves of a device. `disk` is all that contracts see of it.
use Rattle.std.specs.Prelude.{◌≤◌, ◌⊎◌, ℕ, List}
use Rattle.kept_log.specs.declared.device.Device.{Ghosts}

-- A crash at any moment since old leaves a file that has P.
pub record LeavesOnly {D : Type 0} (disk : Ghosts D) (old new : D) (P : List ℕ → Type 0) : Type 0 where
  pub later : disk.moment old ≤ disk.moment new
  pub each : (c : List ℕ) → disk.left_since new (disk.moment old) c → P c
  -- for a run that began earlier
  pub before : (t : ℕ) (c : List ℕ) → t ≤ disk.moment old → disk.left_since new t c → disk.left_since old t c ⊎ P c

-- A crash at any moment since old leaves what it might have left then, or a file that has P.
abbrev pub LeavesAlso : {D : Type 0} → Ghosts D → D → D → (List ℕ → Type 0) → Type 0
LeavesAlso disk old new P = LeavesOnly disk old new (λ c. disk.may_leave old c ⊎ P c)
