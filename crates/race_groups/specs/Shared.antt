-- Lists of locks with a common lock.
use Rattle.std.specs.Prelude.{ℕ, ◌==◌, Bool, false, List, Option, Some, Vec, slice_get}
use Rattle.std.specs.List.{list_any}
use Rattle.std.specs.declared.alloc.Global.{Global}
use Rattle.race_groups.specs.declared.class.Class.{Class}

-- whether the two lists have a common element
abbrev pub is_meeting : List ℕ → List ℕ → Bool
is_meeting xs ys = list_any (λ l. list_any (λ k. k == l) ys) xs

abbrev pub is_sharing_by : Option (Vec ℕ Global) → Option (Vec ℕ Global) → Bool
is_sharing_by (Some v) (Some w) = is_meeting v.items w.items
is_sharing_by v w = false

-- whether the lists with these numbers have a common element
abbrev pub is_sharing : List (Vec ℕ Global) → ℕ → ℕ → Bool
is_sharing lists i j = is_sharing_by (slice_get lists i) (slice_get lists j)

-- whether the lists of two classes have a common element
abbrev pub keeps_shared : List (Vec ℕ Global) → Class → Class → Bool
keeps_shared lists i j = is_sharing lists i.held j.held
