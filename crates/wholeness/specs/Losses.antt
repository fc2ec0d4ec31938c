-- The parts of the line that says what was left out. All notions here are this project's own.
use Rattle.std.specs.Prelude.{◌≡◌, ◌==◌, ◌&&◌, ℕ, Bool, false, All, List}
use Rattle.wholeness.specs.Marks.{is_cause, is_number}
use Rattle.wholeness.specs.declared.loss.Loss.{Loss}

-- none of the bytes is this one
abbrev pub HasNo : ℕ → List ℕ → Type 0
HasNo byte bytes = All (λ b. (b == byte) ≡ false) bytes

-- the parts of a loss are these
pub record AreParts (loss : Loss) (count from cause : List ℕ) : Type 0 where
  pub count_is : loss.count.now ≡ count
  pub from_is : loss.from.now ≡ from
  pub cause_is : loss.cause.now ≡ cause

-- all parts have their form
abbrev pub is_formed : List ℕ → List ℕ → List ℕ → Bool
is_formed count from cause = is_number count && is_number from && is_cause cause
