-- The order of pairs.
use Rattle.std.proofs.Common.{ℕ, refl, ◌∙◌, arith, inl, inr}
use Rattle.race_groups.specs.least_pairs.Order.{IsUpTo}

pub IsUpTo-refl : (p : ℕ × ℕ) → IsUpTo p p
IsUpTo-refl p = inr (refl, omega arith)

pub IsUpTo-trans : (p q r : ℕ × ℕ) → IsUpTo p q → IsUpTo q r → IsUpTo p r
IsUpTo-trans p q r (inl a) (inl b) = inl (omega (arith, a, b))
IsUpTo-trans p q r (inl a) (inr b) = inl (omega (arith, a, b.0))
IsUpTo-trans p q r (inr a) (inl b) = inl (omega (arith, a.0, b))
IsUpTo-trans p q r (inr a) (inr b) = inr (a.0 ∙ b.0, omega (arith, a.1, b.1))
