-- Which entry is about a pair of locations. All notions here are this project's own.
use Rattle.std.specs.Prelude.{ℕ, Bool, ◌&&◌, ◌||◌, List, Option, position, bytes_eq}
use Rattle.followed_races.specs.declared.entries.Followed.{Followed}

-- whether the two locations of the entry are these, in either order
abbrev pub is_on : List ℕ → List ℕ → Followed → Bool
is_on here there f =
    (bytes_eq f.first_location.items here && bytes_eq f.second_location.items there)
    || (bytes_eq f.first_location.items there && bytes_eq f.second_location.items here)

-- the index of the first such entry
abbrev pub told_at : List ℕ → List ℕ → List Followed → Option ℕ
told_at here there fs = position (is_on here there) fs
