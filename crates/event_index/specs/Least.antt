-- The least number with a property.
use Rattle.std.specs.Prelude.{ℕ, ◌≤◌, Option, Some, None}

-- r is the least number with the property Q, or None if no number has it
abbrev pub IsLeastOf : (ℕ → Type 0) → Option ℕ → Type 0
IsLeastOf Q None = (e : ℕ) → ¬ Q e
IsLeastOf Q (Some x) = Q x × ((e : ℕ) → Q e → x ≤ e)
