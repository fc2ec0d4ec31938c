-- The findings on a pair of places while the variables are visited. No public clause cites this module. Pairs are
-- given by their later event and then by their earlier one.
use Rattle.std.specs.Prelude.{◌≡◌, ◌≢◌, ◌⊎◌, ℕ, suc, ◌≤◌, [], All, IfSome, Option, Some, None}
use Rattle.rapid_text.specs.Recording.{Recording}
use Rattle.event_index.specs.Lookups.{before}
use Rattle.race_groups.specs.Groups.{IsCountOf}
use Rattle.race_groups.specs.least_pairs.Taking.{AreTries, HoldsTry, HoldsUp}
use Rattle.race_groups.specs.least_pairs.Pairs.{IsFit, IsOpenOf, HasPair}
use Rattle.race_groups.specs.declared.least_pairs.least.Least.{Least}
use Rattle.race_groups.specs.declared.least_pairs.tries.Between.{Between}
use Rattle.race_groups.specs.declared.least_pairs.tries.Try.{Try}
use Rattle.race_groups.specs.declared.least_pairs.wanted.Wanted.TheVariants.{Candidate}

-- No findings yet.
pub record IsNothing (l : Least) : Type 0 where
  pub variables : l.variables ≡ 0
  pub candidate : l.candidate ≡ None
  pub tries : l.tries.items ≡ []
  pub last : l.last ≡ None

-- the variable has P, and has a candidate or an open pair of the two places
abbrev pub HasOwn : (ℕ → Type 0) → Recording → (ℕ → ℕ) → ℕ × ℕ → ℕ → Type 0
HasOwn P r place places x = P x × HasPair r place places x

-- The number of variables below x with `Has`, and one more if x was counted; x then has it too.
pub record IsCounting (Has : ℕ → Type 0) (x : ℕ) (last : Option ℕ) (n : ℕ) : Type 0 where
  pub below : ℕ
  pub count : IsCountOf Has (before x) below
  pub now : ((last ≡ Some x) × Has x × (n ≡ suc below)) ⊎ ((last ≢ Some x) × (n ≡ below))
  pub reached : IfSome last (λ y. y ≤ x)

-- The findings so far on these places are right, and of the variables with P those below x are counted.
pub record IsSoFar (r : Recording) (place : ℕ → ℕ) (places : ℕ × ℕ) (most : ℕ) (P : ℕ → Type 0) (x : ℕ) (l : Least) : Type 0 where
  pub candidate : IfSome l.candidate (λ p. IsFit r place places Candidate p.1 p.0)
  pub each : All (λ (t : Try). IsOpenOf r place places t.between t.pair.1 t.pair.0) l.tries.items
  pub tries : AreTries most l.tries.items
  pub variables : IsCounting (HasOwn P r place places) x l.last l.variables

-- What was held is still held.
pub record IsMore (most x : ℕ) (old new : Least) : Type 0 where
  pub last : old.last ≡ Some x → new.last ≡ Some x
  pub candidate : (p : ℕ × ℕ) → HoldsUp p old.candidate → HoldsUp p new.candidate
  pub tries : (of : Between) (p : ℕ × ℕ) → HoldsTry most of p old.tries.items → HoldsTry most of p new.tries.items
