-- How a workspace keeps its rows: each under its birth, and each name's birth beside them. No public clause cites this
-- module.
use Rattle.std.specs.Prelude.{◌≡◌, ℕ, List, Option, Some, map, option_map, slice_get}
use Rattle.std.specs.Ordering.{nat_cmp}
use Rattle.std.specs.Str.{bytes_eq}
use Rattle.std.specs.Map.{lookup, values_of}
use Rattle.std.specs.BTreeMap.{is_at}
use Rattle.moves.specs.declared.row.Row.{Row}
use Rattle.moves.specs.Rows.{Rows, row_of, IsListing}

-- each row under its birth
abbrev pub by_birth : Rows → List (ℕ × (List ℕ × Row))
by_birth W = map (λ (q : List ℕ × Row). (q.1.birth, q)) W

-- the name and the row of this birth
abbrev pub born : Rows → ℕ → Option (List ℕ × Row)
born W b = lookup (is_at (nat_cmp b)) (by_birth W)

-- the birth of a name's row
abbrev pub birth_of : Rows → List ℕ → Option ℕ
birth_of W x = option_map (λ (r : Row). r.birth) (row_of W x)

-- the entries have each row under its birth, and the names have the births of their rows
pub record IsHeld (births : List (List ℕ × ℕ)) (rows : List (ℕ × (List ℕ × Row))) : Type 0 where
  pub listing : IsListing (values_of rows)
  pub tree : rows ≡ by_birth (values_of rows)
  pub names : (x : List ℕ) → lookup (bytes_eq x) births ≡ birth_of (values_of rows) x

-- the name x and its birth b are at this index, and a look-up of x finds b
pub record HasBirth (births : List (List ℕ × ℕ)) (at : ℕ) (x : List ℕ) (b : ℕ) : Type 0 where
  pub there : slice_get births at ≡ Some (x, b)
  pub found : lookup (bytes_eq x) births ≡ Some b
