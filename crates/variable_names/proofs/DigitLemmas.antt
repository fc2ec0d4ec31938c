-- A text of digits alone.
use Rattle.std.proofs.Common.{◌≡◌, ℕ, ◌≤◌, Bool, not, List, length, position, Some, None, ◌∙◌, arith, inl, inr}
use Rattle.std.specs.List.{position_or_len}
use Rattle.std.proofs.lemmas.Bool.{cases_lt, cond_below}
use Rattle.std.proofs.lemmas.List.Sums.{prefix_len-le-length}

module _ (p : ℕ → Bool) (xs : List ℕ) where
  pub within : position_or_len p xs ≤ length xs
  within = prefix_len-le-length (λ x. not (p x)) xs

  -- no byte passes the test
  pub none_len : position p xs ≡ None → length xs ≡ position_or_len p xs
  none_len none = elim (cases_lt (position_or_len p xs) (length xs)) [
    | inl lt ↦ absurd (cc (cond_below (position_or_len p xs) (length xs) (Some (position_or_len p xs)) None lt ∙ none))
    | inr ge ↦ omega (arith, ge, within)
  ]
