-- Lists that have a function's value for each number.
use Rattle.std.specs.Prelude.{◌≡◌, ℕ, ◌<◌, List, length, slice_get, Some}

-- the table has the function's value for each number below n
pub record IsTable {X : Type 0} (f : ℕ → X) (n : ℕ) (xs : List X) : Type 0 where
  pub len : length xs ≡ n
  pub at : (i : ℕ) → i < n → slice_get xs i ≡ Some (f i)
