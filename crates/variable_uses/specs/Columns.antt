-- The locks of rows, in the making. No public clause cites this module. `numbers` has the number of each event's row,
-- and `lists` has the events at which each lock is held.
use Rattle.std.specs.Prelude.{◌≡◌, ℕ, ◌+◌, ◌<◌, ◌≤◌, ◌==◌, nat_lt, cond, List, [], ◌∷◌, ◌++◌, All, count_by, flat_map, length, Option, Some, None, slice_get, slice_index, Vec}
use Rattle.std.specs.List.{list_any}
use Rattle.std.specs.declared.alloc.Global.{Global}
use Rattle.event_index.specs.Lookups.{before}
use Rattle.variable_uses.specs.Numbers.{has_number}
use Rattle.variable_uses.specs.declared.columns.LockCount.{LockCount}

abbrev pub items_by : Option (Vec ℕ Global) → List ℕ
items_by None = []
items_by (Some v) = v.items

-- the events at which the lock is held
abbrev pub list_at : List (Vec ℕ Global) → ℕ → List ℕ
list_at lists l = items_by (slice_get lists l)

-- each list has few events, all of which have numbers
abbrev pub AreFewUses : List ℕ → List (Vec ℕ Global) → Type 0
AreFewUses numbers lists = (l : ℕ) (v : Vec ℕ Global) → slice_get lists l ≡ Some v → (length v.items ≤ 1048576) × All (λ e. e < length numbers) v.items

-- no row has a count
abbrev pub AreNone : List ℕ → Type 0
AreNone counts = (k : ℕ) → k < length counts → slice_index counts k ≡ 0

-- no column has a lock
abbrev pub AreEmptyColumns : List (Vec LockCount Global) → Type 0
AreEmptyColumns columns = (k : ℕ) (v : Vec LockCount Global) → slice_get columns k ≡ Some v → v.items ≡ []

-- the lock with its count, if the count is not 0
abbrev pub entry : ℕ → ℕ → List LockCount
entry lock count = cond (nat_lt 0 count) ((record { lock = lock; count = count }) ∷ []) []

-- the locks below n that are held at some event of row k, with how many these are
abbrev pub column_of : List (Vec ℕ Global) → List ℕ → ℕ → ℕ → List LockCount
column_of lists numbers k n = flat_map (λ l. entry l (count_by (has_number numbers k) (list_at lists l))) (before n)

-- each column has the locks below n
abbrev pub AreColumnsBefore : List (Vec ℕ Global) → List ℕ → ℕ → List (Vec LockCount Global) → Type 0
AreColumnsBefore lists numbers n columns = (k : ℕ) (v : Vec LockCount Global) → slice_get columns k ≡ Some v → v.items ≡ column_of lists numbers k n

-- each column has one lock more, if some event of the list is in its row
abbrev pub IsColumnPut : List ℕ → List ℕ → ℕ → List (Vec LockCount Global) → List (Vec LockCount Global) → Type 0
IsColumnPut numbers list lock old new =
    (k : ℕ) (v : Vec LockCount Global) → slice_get new k ≡ Some v
    → (u : Vec LockCount Global) × (slice_get old k ≡ Some u) × (v.items ≡ u.items ++ entry lock (count_by (has_number numbers k) list))

-- the column of the row with this number has the lock with the row's count; the other columns are as before
abbrev pub IsPutOne : ℕ → ℕ → List ℕ → List (Vec LockCount Global) → List (Vec LockCount Global) → Type 0
IsPutOne number lock counts old new =
    (k : ℕ) (v : Vec LockCount Global) → slice_get new k ≡ Some v
    → (u : Vec LockCount Global) × (slice_get old k ≡ Some u) × (v.items ≡ u.items ++ cond (number == k + 1) (entry lock (slice_index counts k)) [])

-- the locks below n with a list that is not empty, with its length
abbrev pub totals_of : List (Vec ℕ Global) → ℕ → List LockCount
totals_of lists n = flat_map (λ l. entry l (length (list_at lists l))) (before n)

-- While the counts of a list move to their columns: `done` are the events so far, and `first` are the columns at first.
-- A row with one of these events has its lock and no count; the others still have their counts.
pub record IsMoving (numbers list done : List ℕ) (lock : ℕ) (counts : List ℕ) (first columns : List (Vec LockCount Global)) : Type 0 where
  pub left : (k : ℕ) → k < length counts → slice_index counts k ≡ cond (list_any (has_number numbers k) done) 0 (count_by (has_number numbers k) list)
  pub moved :
      (k : ℕ) (v : Vec LockCount Global) → slice_get columns k ≡ Some v
      → (u : Vec LockCount Global) × (slice_get first k ≡ Some u) × (v.items ≡ u.items ++ cond (list_any (has_number numbers k) done) (entry lock (count_by (has_number numbers k) list)) [])
