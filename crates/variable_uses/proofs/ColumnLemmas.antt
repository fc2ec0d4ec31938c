-- The columns of locks, one event further and one lock further.
use Rattle.std.proofs.Common.{◌≡◌, ℕ, ◌+◌, ◌-◌, ◌<◌, ◌≤◌, ◌==◌, Bool, true, false, cond, List, [], ◌∷◌, ◌++◌, Vec, set, count_by, length, slice_index, Some, refl, sym, ap, ◌∙◌, arith, inl, inr, append-nil, get_or-set_other, get_or-set_same}
use Rattle.std.specs.List.{list_any, flat_map, slice_get}
use Rattle.std.specs.declared.alloc.Global.{Global}
use Rattle.std.proofs.lemmas.Bool.{cases_Bool, cases_eq, cases_lt, true≢false, eq-eqb, ne_eqb, lt-ltb}
use Rattle.std.proofs.lemmas.List.Concat.{flat_map-append}
use Rattle.std.proofs.lemmas.List.Sums.{sum_by_push}
use Rattle.trace_rules.proofs.Counts.{list_any-from_count, slice_get-set}
use Rattle.event_index.specs.Lookups.{before}
use Rattle.event_index.proofs.CallerLemmas.{before_more}
use Rattle.std.proofs.lemmas.Option.{slice_get_within}
use Rattle.variable_uses.specs.Numbers.{has_number}
use Rattle.variable_uses.specs.Columns.{AreColumnsBefore, AreNone, IsColumnPut, IsMoving, IsPutOne, column_of, entry, items_by, list_at, totals_of}
use Rattle.variable_uses.specs.declared.columns.LockCount.{LockCount}
use Rattle.variable_uses.proofs.SeenLemmas.{any_push_no, any_push_yes}

pub count_push : (test : ℕ → Bool) (events : List ℕ) (e : ℕ) → count_by test (events ++ e ∷ []) ≡ count_by test events + cond (test e) 1 0
count_push test events e = sum_by_push (λ x. cond (test x) 1 0) events e

none_counted : (test : ℕ → Bool) (events : List ℕ) → list_any test events ≡ false → count_by test events ≡ 0
none_counted test events none = elim (cases_lt 0 (count_by test events)) [
  | inl positive ↦ absurd (true≢false (sym (list_any-from_count test test events (λ m passes. passes) positive) ∙ none))
  | inr le ↦ omega (arith, le)
]

entry_none : (lock : ℕ) → entry lock 0 ≡ []
entry_none lock = refl

-- what is moved so far: by whether an event of the row came already
module _ (numbers list done : List ℕ) (lock e : ℕ) (counts later : List ℕ) (first old new : List (Vec LockCount Global)) (are : IsMoving numbers list done lock counts first old)
    (emptied : (k : ℕ) → k < length counts → slice_index later k ≡ cond (slice_index numbers e == k + 1) 0 (slice_index counts k)) (len : length later ≡ length counts) (columns_len : length old ≡ length counts) (put : IsPutOne (slice_index numbers e) lock counts old new) where
  test : ℕ → Bool
  test k = has_number numbers k e

  -- a row that has the event
  here_count : (k : ℕ) → k < length counts → has_number numbers k e ≡ true → slice_index later k ≡ cond (list_any (has_number numbers k) (done ++ e ∷ [])) 0 (count_by (has_number numbers k) list)
  here_count k lt mine =
      emptied k lt ∙ ap (λ b. cond b 0 (slice_index counts k)) mine ∙ sym (ap (λ b. cond b 0 (count_by (has_number numbers k) list)) (any_push_yes (has_number numbers k) done e mine))

  other_count : (k : ℕ) → k < length counts → has_number numbers k e ≡ false → slice_index later k ≡ cond (list_any (has_number numbers k) (done ++ e ∷ [])) 0 (count_by (has_number numbers k) list)
  other_count k lt not_mine =
      emptied k lt ∙ ap (λ b. cond b 0 (slice_index counts k)) not_mine ∙ are.left k lt ∙ sym (ap (λ b. cond b 0 (count_by (has_number numbers k) list)) (any_push_no (has_number numbers k) done e not_mine))

  -- the column of a row that has the event: it has the lock already, or gets it now
  grown : (k : ℕ) (items : List LockCount) (b : Bool) → (items ++ cond b (entry lock (count_by (has_number numbers k) list)) []) ++ entry lock (cond b 0 (count_by (has_number numbers k) list)) ≡ items ++ entry lock (count_by (has_number numbers k) list)
  grown k items true = append-nil (items ++ entry lock (count_by (has_number numbers k) list))
  grown k items false = ap (λ xs. xs ++ entry lock (count_by (has_number numbers k) list)) (append-nil items)

  column : (k : ℕ) (v : Vec LockCount Global) → slice_get new k ≡ Some v
      → (u : Vec LockCount Global) × (slice_get first k ≡ Some u) × (v.items ≡ u.items ++ cond (list_any (has_number numbers k) (done ++ e ∷ [])) (entry lock (count_by (has_number numbers k) list)) [])
  column k v at =
      let (w, was, is) = put k v at in
      let (u, there, so_far) = are.moved k w was in
      let within : k < length counts = let inside = slice_get_within old k w was in omega (arith, inside, columns_len) in (
        u,
        there,
        elim (cases_Bool (has_number numbers k e)) [
          | inl mine ↦
              is ∙ ap (λ b. w.items ++ cond b (entry lock (slice_index counts k)) []) mine ∙ ap (λ c. w.items ++ entry lock c) (are.left k within) ∙ ap (λ xs. xs ++ entry lock (cond (list_any (has_number numbers k) done) 0 (count_by (has_number numbers k) list))) so_far
              ∙ grown k u.items (list_any (has_number numbers k) done) ∙ sym (ap (λ b. u.items ++ cond b (entry lock (count_by (has_number numbers k) list)) []) (any_push_yes (has_number numbers k) done e mine))
          | inr other ↦
              is ∙ ap (λ b. w.items ++ cond b (entry lock (slice_index counts k)) []) other ∙ append-nil w.items ∙ so_far
              ∙ sym (ap (λ b. u.items ++ cond b (entry lock (count_by (has_number numbers k) list)) []) (any_push_no (has_number numbers k) done e other))
        ],
      )

  pub IsMoving-more : IsMoving numbers list (done ++ e ∷ []) lock later first new
  IsMoving-more = record {
    left = λ k lt. elim (cases_Bool (has_number numbers k e)) [ inl mine ↦ here_count k (omega (arith, lt, len)) mine | inr other ↦ other_count k (omega (arith, lt, len)) other ];
    moved = column;
  }

-- before the first event
pub IsMoving-begin : (numbers list : List ℕ) (lock : ℕ) (counts : List ℕ) (columns : List (Vec LockCount Global)) → ((k : ℕ) → k < length counts → slice_index counts k ≡ count_by (has_number numbers k) list) → IsMoving numbers list [] lock counts columns columns
IsMoving-begin numbers list lock counts columns are = record { left = are; moved = λ k v at. (v, at, sym (append-nil v.items)) }

-- after the last event
module _ (numbers list : List ℕ) (lock : ℕ) (counts : List ℕ) (first columns : List (Vec LockCount Global)) (are : IsMoving numbers list list lock counts first columns) where
  pub AreNone-moved : AreNone counts
  AreNone-moved k lt = elim (cases_Bool (list_any (has_number numbers k) list)) [
    | inl some ↦ are.left k lt ∙ ap (λ b. cond b 0 (count_by (has_number numbers k) list)) some
    | inr none ↦ are.left k lt ∙ ap (λ b. cond b 0 (count_by (has_number numbers k) list)) none ∙ none_counted (has_number numbers k) list none
  ]

  pub IsColumnPut-moved : IsColumnPut numbers list lock first columns
  IsColumnPut-moved k v at =
      let (u, there, is) = are.moved k v at in (
        u,
        there,
        elim (cases_Bool (list_any (has_number numbers k) list)) [
          | inl some ↦ is ∙ ap (λ b. u.items ++ cond b (entry lock (count_by (has_number numbers k) list)) []) some
          | inr none ↦
              is ∙ ap (λ b. u.items ++ cond b (entry lock (count_by (has_number numbers k) list)) []) none
              ∙ sym (ap (λ c. u.items ++ entry lock c) (none_counted (has_number numbers k) list none))
        ],
      )

pub flat_map_one : (f : ℕ → List LockCount) (xs : List ℕ) (x : ℕ) → flat_map f (xs ++ x ∷ []) ≡ flat_map f xs ++ f x
flat_map_one f xs x = flat_map-append f xs (x ∷ []) ∙ ap (λ ys. flat_map f xs ++ ys) (append-nil (f x))

-- one lock more
column_more : (lists : List (Vec ℕ Global)) (numbers : List ℕ) (k n : ℕ) → column_of lists numbers k (n + 1) ≡ column_of lists numbers k n ++ entry n (count_by (has_number numbers k) (list_at lists n))
column_more lists numbers k n = ap (flat_map (λ l. entry l (count_by (has_number numbers k) (list_at lists l)))) (before_more n) ∙ flat_map_one (λ l. entry l (count_by (has_number numbers k) (list_at lists l))) (before n) n

pub AreColumnsBefore-more : (lists : List (Vec ℕ Global)) (numbers list : List ℕ) (n : ℕ) (old new : List (Vec LockCount Global)) → list_at lists n ≡ list → AreColumnsBefore lists numbers n old → IsColumnPut numbers list n old new → AreColumnsBefore lists numbers (n + 1) new
AreColumnsBefore-more lists numbers list n old new is are put k v at =
    let (u, was, grown) = put k v at in
    grown ∙ ap (λ xs. xs ++ entry n (count_by (has_number numbers k) list)) (are k u was) ∙ ap (λ xs. column_of lists numbers k n ++ entry n (count_by (has_number numbers k) xs)) (sym is) ∙ sym (column_more lists numbers k n)

-- one more count, by the number of a row
pub count_set : (counts : List ℕ) (number k : ℕ) → 0 < number → number ≤ length counts → slice_index (set counts (number - 1) (slice_index counts (number - 1) + 1)) k ≡ slice_index counts k + cond (number == k + 1) 1 0
count_set counts number k positive within = elim (cases_eq k (number - 1)) [
  | inl same ↦
      let here : slice_index (set counts (number - 1) (slice_index counts (number - 1) + 1)) k ≡ slice_index counts (number - 1) + 1 =
      ap (slice_index (set counts (number - 1) (slice_index counts (number - 1) + 1))) same ∙ get_or-set_same counts (number - 1) (slice_index counts (number - 1) + 1) 0 (omega (arith, positive, within)) in
      here ∙ ap (λ j. slice_index counts j + 1) (sym same) ∙ sym (ap (λ b. slice_index counts k + cond b 1 0) (eq-eqb number (k + 1) (omega (arith, same, positive))))
  | inr other ↦
      let none : slice_index counts k + cond (number == k + 1) 1 0 ≡ slice_index counts k + 0 = ap (λ b. slice_index counts k + cond b 1 0) (ne_eqb number (k + 1) (omega (arith, other, positive))) in
      let kept = get_or-set_other counts (number - 1) k (slice_index counts (number - 1) + 1) 0 other in
      omega (arith, kept, none)
]

pub count_none : (counts : List ℕ) (number k : ℕ) → number ≡ 0 → slice_index counts k ≡ slice_index counts k + cond (number == k + 1) 1 0
count_none counts number k is =
    let none : slice_index counts k + cond (number == k + 1) 1 0 ≡ slice_index counts k + 0 = ap (λ b. slice_index counts k + cond b 1 0) (ne_eqb number (k + 1) (omega (arith, is))) in
    omega (arith, none)

-- an event of no row moves nothing
pub kept_counts : (counts : List ℕ) (number k : ℕ) → number ≡ 0 → slice_index counts k ≡ cond (number == k + 1) 0 (slice_index counts k)
kept_counts counts number k is = sym (ap (λ b. cond b 0 (slice_index counts k)) (ne_eqb number (k + 1) (omega (arith, is))))

pub IsPutOne-none : (number lock : ℕ) (counts : List ℕ) (old : List (Vec LockCount Global)) → number ≡ 0 → IsPutOne number lock counts old old
IsPutOne-none number lock counts old is k v at =
    (v, at, sym (ap (λ b. v.items ++ cond b (entry lock (slice_index counts k)) []) (ne_eqb number (k + 1) (omega (arith, is))) ∙ append-nil v.items))

-- nor does a row without a count
module _ (number lock : ℕ) (counts : List ℕ) (old : List (Vec LockCount Global)) (positive : 0 < number) (empty : slice_index counts (number - 1) ≡ 0) where
  pub empty_counts : (k : ℕ) → slice_index counts k ≡ cond (number == k + 1) 0 (slice_index counts k)
  empty_counts k = elim (cases_eq number (k + 1)) [
    | inl is ↦
        let row : k ≡ number - 1 = omega (arith, is) in
        ap (slice_index counts) row ∙ empty ∙ sym (ap (λ b. cond b 0 (slice_index counts k)) (eq-eqb number (k + 1) is))
    | inr other ↦ sym (ap (λ b. cond b 0 (slice_index counts k)) (ne_eqb number (k + 1) other))
  ]

  nothing : (k : ℕ) → cond (number == k + 1) (entry lock (slice_index counts k)) [] ≡ []
  nothing k = elim (cases_eq number (k + 1)) [
    | inl is ↦
        let row : k ≡ number - 1 = omega (arith, is) in
        ap (λ b. cond b (entry lock (slice_index counts k)) []) (eq-eqb number (k + 1) is) ∙ ap (entry lock) (ap (slice_index counts) row ∙ empty)
    | inr other ↦ ap (λ b. cond b (entry lock (slice_index counts k)) []) (ne_eqb number (k + 1) other)
  ]

  pub IsPutOne-empty : IsPutOne number lock counts old old
  IsPutOne-empty k v at = (v, at, sym (ap (λ xs. v.items ++ xs) (nothing k) ∙ append-nil v.items))

-- a row with a count
module _ (number lock : ℕ) (counts : List ℕ) (old : List (Vec LockCount Global)) (positive : 0 < number) (within : number ≤ length counts) (full : 0 < slice_index counts (number - 1)) where
  pub moved_counts : (k : ℕ) → k < length counts → slice_index (set counts (number - 1) 0) k ≡ cond (number == k + 1) 0 (slice_index counts k)
  moved_counts k lt = elim (cases_eq k (number - 1)) [
    | inl same ↦
        ap (slice_index (set counts (number - 1) 0)) same ∙ get_or-set_same counts (number - 1) 0 0 (omega (arith, positive, within))
        ∙ sym (ap (λ b. cond b 0 (slice_index counts k)) (eq-eqb number (k + 1) (omega (arith, same, positive))))
    | inr other ↦
        get_or-set_other counts (number - 1) k 0 0 other ∙ sym (ap (λ b. cond b 0 (slice_index counts k)) (ne_eqb number (k + 1) (omega (arith, other, positive))))
  ]

  pub IsPutOne-row : (u w : Vec LockCount Global) (new : List (Vec LockCount Global)) → slice_get old (number - 1) ≡ Some u → w.items ≡ u.items ++ (record { lock = lock; count = slice_index counts (number - 1) }) ∷ [] → new ≡ set old (number - 1) w → IsPutOne number lock counts old new
  IsPutOne-row u w new was is put k v at = elim (slice_get-set old (number - 1) k w v (slice_get_within old (number - 1) u was) (ap (λ xs. slice_get xs k) (sym put) ∙ at)) [
    | inl mine ↦
        let one : entry lock (slice_index counts (number - 1)) ≡ (record { lock = lock; count = slice_index counts (number - 1) }) ∷ [] =
        ap (λ b. cond b ((record { lock = lock; count = slice_index counts (number - 1) }) ∷ []) []) (lt-ltb 0 (slice_index counts (number - 1)) full) in
        let here : cond (number == k + 1) (entry lock (slice_index counts k)) [] ≡ entry lock (slice_index counts (number - 1)) =
        ap (λ b. cond b (entry lock (slice_index counts k)) []) (eq-eqb number (k + 1) (omega (arith, mine.0, positive))) ∙ ap (λ j. entry lock (slice_index counts j)) mine.0 in
        (u, ap (slice_get old) mine.0 ∙ was, ap (λ (x : Vec LockCount Global). x.items) (sym mine.1) ∙ is ∙ ap (λ xs. u.items ++ xs) (sym one) ∙ ap (λ xs. u.items ++ xs) (sym here))
    | inr kept ↦
        (v, kept.1, sym (ap (λ b. v.items ++ cond b (entry lock (slice_index counts k)) []) (ne_eqb number (k + 1) (let ne = kept.0 in omega (arith, ne, positive))) ∙ append-nil v.items))
  ]

-- one total more
pub totals_more : (lists : List (Vec ℕ Global)) (n : ℕ) → totals_of lists (n + 1) ≡ totals_of lists n ++ entry n (length (list_at lists n))
totals_more lists n = ap (flat_map (λ l. entry l (length (list_at lists l)))) (before_more n) ∙ flat_map_one (λ l. entry l (length (list_at lists l))) (before n) n

pub entry_some : (lock count : ℕ) → 0 < count → entry lock count ≡ (record { lock = lock; count = count }) ∷ []
entry_some lock count positive = ap (λ b. cond b ((record { lock = lock; count = count }) ∷ []) []) (lt-ltb 0 count positive)

pub list_here : (lists : List (Vec ℕ Global)) (n : ℕ) (v : Vec ℕ Global) → slice_get lists n ≡ Some v → list_at lists n ≡ v.items
list_here lists n v at = ap items_by at
