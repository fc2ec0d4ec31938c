-- The joined findings of several workers on different variables. No public clause cites this module.
use Rattle.std.specs.Prelude.{◌≡◌, ◌⊎◌, ℕ, ◌+◌, ◌<◌, ◌%◌, List, length, All, Contains, None}
use Rattle.std.specs.List.{slice_index_or}
use Rattle.race_groups.specs.least_pairs.Taking.{AreTries, HoldsTry, HoldsUp}
use Rattle.race_groups.specs.declared.least_pairs.least.Least.{Least}
use Rattle.race_groups.specs.declared.least_pairs.tries.Between.{Between}
use Rattle.race_groups.specs.declared.least_pairs.tries.Try.{Try}

-- the variables of the first `workers` workers
abbrev pub IsBelow : ℕ → ℕ → ℕ → Type 0
IsBelow every workers x = x % every < workers

-- The tries of a part are added.
pub record AreTriesJoined (most : ℕ) (part old new : List Try) : Type 0 where
  pub tries : AreTries most new
  pub each : All (λ (t : Try). Contains part t ⊎ Contains old t) new
  pub more : (of : Between) (p : ℕ × ℕ) → HoldsTry most of p old → HoldsTry most of p new
  pub other : (of : Between) (p : ℕ × ℕ) → HoldsTry most of p part → HoldsTry most of p new

-- The findings of a part on other variables are added.
pub record IsJoined (most : ℕ) (part old new : Least) : Type 0 where
  pub variables : new.variables ≡ old.variables + part.variables
  pub last : new.last ≡ None
  pub either : (new.candidate ≡ old.candidate) ⊎ (new.candidate ≡ part.candidate)
  pub candidate : (p : ℕ × ℕ) → HoldsUp p old.candidate → HoldsUp p new.candidate
  pub other : (p : ℕ × ℕ) → HoldsUp p part.candidate → HoldsUp p new.candidate
  pub tries : AreTriesJoined most part.tries.items old.tries.items new.tries.items

-- The same for each row.
pub record AreJoined (most : ℕ) (part old new : List Least) : Type 0 where
  pub len : length new ≡ length old
  pub each : (at : ℕ) (d : Least) → at < length old
      → IsJoined most (slice_index_or part at d) (slice_index_or old at d) (slice_index_or new at d)
