-- Locations of acquires that only try to get their lock.
use Rattle.std.specs.Prelude.{◌≡◌, ◌==◌, ◌&&◌, ◌||◌, ℕ, ◌+◌, ◌<◌, nat_eq, Bool, true, false, List, length, drop, codes}
use Rattle.std.specs.List.{starts_with}

-- whether the text is `try`, or begins with `try in ` or `try < `
abbrev pub begins_try : List ℕ → Bool
begins_try text =
    starts_with nat_eq text (codes "try")
    && ((length text == 3) || starts_with nat_eq text (codes "try in ") || starts_with nat_eq text (codes "try < "))

-- whether ` < ` begins at this index of the location
abbrev pub is_arrow : List ℕ → ℕ → Bool
is_arrow location at = starts_with nat_eq (drop at location) (codes " < ")

-- The location marks an acquire that only tries to get its lock: the mark follows the first ` < `.
pub record IsTry (location : List ℕ) : Type 0 where
  pub at : ℕ
  pub within : at < length location
  pub arrow : is_arrow location at ≡ true
  pub first : (k : ℕ) → k < at → is_arrow location k ≡ false
  pub mark : begins_try (drop (at + 3) location) ≡ true
