-- Indexes of the lists of names. No public clause cites this module.
use Rattle.std.specs.Prelude.{◌≡◌, ℕ, List, Some, bytes_eq, slice_get}
use Rattle.std.specs.Map.{lookup}
use Rattle.dependence.specs.Lists.{Lists}

-- the list of the name x is at this index, and a look-up of x finds it
pub record HasAt (T : Lists) (at : ℕ) (x : List ℕ) : Type 0 where
  pub list : List ℕ
  pub there : slice_get T at ≡ Some (x, list)
  pub found : lookup (bytes_eq x) T ≡ Some list
