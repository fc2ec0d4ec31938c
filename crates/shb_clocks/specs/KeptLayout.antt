-- How fields represent kept lists. No public clause cites this module.
use Rattle.std.specs.Prelude.{◌≡◌, ℕ, ◌+◌, ◌<◌, ◌≤◌, List, length, slice_index}
use Rattle.shb_clocks.specs.Kept.{Lists}
use Rattle.shb_clocks.specs.declared.kept.Kept.TheInside.{Inside}

abbrev pub lists : Inside → Lists
lists s = record { width = s.width; wholes = s.wholes.items; rises = s.rises.items }

-- there is a whole list at each index in `latest`, and the first rises are all zeros
pub record AreKept (width : ℕ) (wholes rises latest : List ℕ) : Type 0 where
  pub some_wholes : width ≤ length wholes
  pub some_rises : width ≤ length rises
  pub begun : (t : ℕ) → t < length latest → slice_index latest t + width ≤ length wholes
  pub none : (t : ℕ) → t < width → slice_index rises t ≡ 0

abbrev pub IsKept : Inside → Type 0
IsKept s = AreKept s.width s.wholes.items s.rises.items s.latest.items
