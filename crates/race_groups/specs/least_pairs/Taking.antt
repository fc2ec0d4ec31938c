-- The effect of one more pair of events on the findings on a pair of places. Pairs are given by their later event and
-- then by their earlier one. All notions are this project's own.
use Rattle.std.specs.Prelude.{◌≡◌, ◌≢◌, ◌⊎◌, ℕ, suc, ◌≤◌, List, length, All, AllPairs, Any, Contains, Option, Some}
use Rattle.race_groups.specs.least_pairs.Order.{IsUpTo}
use Rattle.race_groups.specs.declared.least_pairs.least.Least.{Least}
use Rattle.race_groups.specs.declared.least_pairs.tries.Between.{Between}
use Rattle.race_groups.specs.declared.least_pairs.tries.Try.{Try}

-- pairs in rising order, no two of one variable and two threads, and no more than `most`
pub record AreTries (most : ℕ) (tries : List Try) : Type 0 where
  pub rising : AllPairs (λ (t u : Try). IsUpTo t.pair u.pair) tries
  pub once : AllPairs (λ (t u : Try). t.between ≢ u.between) tries
  pub few : length tries ≤ most

-- a try of this variable and these two threads comes no later than p; or there are `most` tries, and none comes after
-- p
abbrev pub HoldsTry : ℕ → Between → ℕ × ℕ → List Try → Type 0
HoldsTry most of p tries =
    Any (λ (t : Try). (t.between ≡ of) × IsUpTo t.pair p) tries ⊎ ((length tries ≡ most) × All (λ (t : Try). IsUpTo t.pair p) tries)

-- One more pair was added.
pub record IsTryNoted (most : ℕ) (t : Try) (old new : List Try) : Type 0 where
  pub tries : AreTries most new
  pub each : All (λ (u : Try). (u ≡ t) ⊎ Contains old u) new
  pub held : HoldsTry most t.between t.pair new
  pub more : (of : Between) (p : ℕ × ℕ) → HoldsTry most of p old → HoldsTry most of p new

-- the known pair is p, or comes before it
abbrev pub HoldsUp : ℕ × ℕ → Option (ℕ × ℕ) → Type 0
HoldsUp p known = (q : ℕ × ℕ) × (known ≡ Some q) × IsUpTo q p

-- the variable is counted: now, or already as the last one
abbrev pub IsVariableNoted : ℕ → Least → Least → Type 0
IsVariableNoted x old new =
    (new.last ≡ Some x) × (((old.last ≡ Some x) × (new.variables ≡ old.variables)) ⊎ ((old.last ≢ Some x) × (new.variables ≡ suc old.variables)))

-- A candidate of variable x was added.
pub record IsCandidateNoted (x : ℕ) (p : ℕ × ℕ) (old new : Least) : Type 0 where
  pub variable : IsVariableNoted x old new
  pub tries : new.tries.items ≡ old.tries.items
  pub each : (new.candidate ≡ Some p) ⊎ (new.candidate ≡ old.candidate)
  pub held : HoldsUp p new.candidate
  pub more : (q : ℕ × ℕ) → HoldsUp q old.candidate → HoldsUp q new.candidate

-- An open pair was added.
pub record IsOpenNoted (most : ℕ) (t : Try) (old new : Least) : Type 0 where
  pub variable : IsVariableNoted t.between.variable old new
  pub candidate : new.candidate ≡ old.candidate
  pub noted : IsTryNoted most t old.tries.items new.tries.items
