-- Rows and the candidates that wait for them, by the places of the later and of the earlier event. No public clause
-- cites this module.
use Rattle.std.specs.Prelude.{◌≡◌, ◌≢◌, ◌⊎◌, ℕ, ◌+◌, ◌-◌, ◌<◌, ◌≤◌, ◌^◌, List, [], map, slice_get, slice_index, Option, Some, None, Vec}
use Rattle.std.specs.declared.alloc.Global.{Global}
use Rattle.indexmap.specs.IndexMap.{IndexMap, with_entries, with_value_at}
use Rattle.race_groups.specs.Rows.{Part, of_all, of_candidates, of_ordered, of_guarded, count_at, AreRows}
use Rattle.race_groups.specs.declared.rows.Sums.{Sums}
use Rattle.race_groups.specs.declared.waiting.Waiting.{Waiting}

abbrev pub numbers_of : Option (Vec ℕ Global) → List ℕ
numbers_of None = []
numbers_of (Some v) = v.items

-- 0 if the row for the places of a later and an earlier event is not known; otherwise its waiting candidates plus one
abbrev pub cell_at : List (Vec ℕ Global) → ℕ → ℕ → ℕ
cell_at cells q p = slice_index (numbers_of (slice_get cells q)) p

-- the same for a table
abbrev pub waiting_cell : Waiting → ℕ → ℕ → ℕ
waiting_cell w q p = cell_at w.cells.items q p

-- this cell grows by n
abbrev pub IsCellRaised : ℕ → ℕ → ℕ → Waiting → Waiting → Type 0
IsCellRaised q p n old new = waiting_cell new q p ≡ waiting_cell old q p + n

-- all cells but this one stay
abbrev pub AreOthersKept : ℕ → ℕ → Waiting → Waiting → Type 0
AreOthersKept later earlier old new =
    (p q : ℕ) → ¬ ((q ≡ later) × (p ≡ earlier)) → waiting_cell new q p ≡ waiting_cell old q p

-- all cells stay
abbrev pub AreCellsKept : Waiting → Waiting → Type 0
AreCellsKept old new = (p q : ℕ) → waiting_cell new q p ≡ waiting_cell old q p

-- all cells stay, but this one, of two different places, may change from 0 to 1
abbrev pub IsCellOpened : ℕ → ℕ → Waiting → Waiting → Type 0
IsCellOpened later earlier old new =
    (p q : ℕ) → (waiting_cell new q p ≡ waiting_cell old q p)
    ⊎ ((q ≡ later) × (p ≡ earlier) × (q ≢ p) × (waiting_cell old q p ≡ 0) × (waiting_cell new q p ≡ 1))

-- all numbers of a row of cells stay, but the one at this index may change from 0 to 1
abbrev pub IsNumberOpened : ℕ → List ℕ → List ℕ → Type 0
IsNumberOpened at old new =
    (p : ℕ) → (slice_index new p ≡ slice_index old p) ⊎ ((p ≡ at) × (slice_index old p ≡ 0) × (slice_index new p ≡ 1))

-- the number of candidates of two places that wait
abbrev pub waiting_at : List (Vec ℕ Global) → ℕ → ℕ → ℕ
waiting_at cells p q = (cell_at cells q p - 1) + (cell_at cells p q - 1)

-- what n candidates add to a part
abbrev pub waiting_of : Part → ℕ → ℕ
waiting_of of_all n = 0
waiting_of of_candidates n = n
waiting_of of_ordered n = 0
waiting_of of_guarded n = 0

-- the sums with n further candidates
abbrev pub with_more : Sums → ℕ → Sums
with_more s n = record { all = s.all; candidates = s.candidates + n; ordered = s.ordered; guarded = s.guarded }

-- a row with what waits for it
abbrev pub entry_with : List (Vec ℕ Global) → (ℕ × ℕ) × Sums → (ℕ × ℕ) × Sums
entry_with cells e = (e.0, with_more e.1 (waiting_at cells e.0.0 e.0.1))

-- all rows with what waits for them
abbrev pub rows_with : {S : Type 0} → List (Vec ℕ Global) → IndexMap (ℕ × ℕ) Sums S → IndexMap (ℕ × ℕ) Sums S
rows_with cells m = with_entries m (map (entry_with cells) m.entries)

-- the row at this index got what waits for it
abbrev pub IsEntrySettled : {S : Type 0} → Waiting → ℕ → IndexMap (ℕ × ℕ) Sums S → IndexMap (ℕ × ℕ) Sums S → Type 0
IsEntrySettled w at old new =
    (e : (ℕ × ℕ) × Sums) → slice_get old.entries at ≡ Some e
    → new ≡ with_value_at old at (with_more e.1 (waiting_at w.cells.items e.0.0 e.0.1))

-- Only candidates of two places with a row wait, and none of one place twice. Each row can take what waits for it.
pub record AreWaiting {S : Type 0} (cells : List (Vec ℕ Global)) (m : IndexMap (ℕ × ℕ) Sums S) : Type 0 where
  pub rows : AreRows m
  pub there : (p q : ℕ) → p ≤ q → ((k : Part) → count_at k m p q ≡ 0) → (cell_at cells p q ≡ 0) × (cell_at cells q p ≡ 0)
  pub apart : (p : ℕ) → cell_at cells p p ≡ 0
  pub fits : (p q : ℕ) → p ≤ q → count_at of_candidates m p q + waiting_at cells p q < 2 ^ 64
