-- The index at which rising numbers reach a bound. No public clause cites this module.
use Rattle.std.specs.Prelude.{ℕ, ◌<◌, ◌≤◌, List, length, slice_index}

-- no number is less than one before it
abbrev pub IsOrdered : List ℕ → Type 0
IsOrdered xs = (i k : ℕ) → i ≤ k → k < length xs → slice_index xs i ≤ slice_index xs k

-- The first n numbers are below the bound, and the others of the first `end` are not.
pub record IsReach (xs : List ℕ) (end bound n : ℕ) : Type 0 where
  pub within : n ≤ end
  pub low : (k : ℕ) → k < n → slice_index xs k < bound
  pub high : (k : ℕ) → n ≤ k → k < end → bound ≤ slice_index xs k
