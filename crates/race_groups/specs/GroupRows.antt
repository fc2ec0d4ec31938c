-- The index of the row of two places.
use Rattle.std.specs.Prelude.{◌≡◌, ℕ, true, false, Some, slice_get}
use Rattle.race_groups.specs.Groups.{is_between}
use Rattle.race_groups.specs.declared.kinds.Groups.{Groups}
use Rattle.race_groups.specs.declared.kinds.Row.{Row}

-- the row at this index has the places a and b, in either order
abbrev pub IsRowAt : Groups → ℕ → ℕ → ℕ → Type 0
IsRowAt g a b at = (row : Row) × (slice_get g.rows.items at ≡ Some row) × (is_between row.places.0 row.places.1 a b ≡ true)

-- no row has the places a and b
abbrev pub HasNoRow : Groups → ℕ → ℕ → Type 0
HasNoRow g a b = (at : ℕ) (row : Row) → slice_get g.rows.items at ≡ Some row → is_between row.places.0 row.places.1 a b ≡ false
