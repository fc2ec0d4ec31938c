-- The entries of classes in the making.
use Rattle.std.proofs.Common.{◌≡◌, ◌≢◌, ℕ, zero, suc, ◌+◌, ◌*◌, ◌<◌, ◌≤◌, ◌==◌, cond, List, [], ◌∷◌, ◌++◌, Vec, length, set, get_or, slice_index, Some, get_or-set_same, get_or-set_other, Bool, true, false, refl, sym, ap, ◌∙◌, inl, inr, subst, arith}
use Rattle.std.specs.declared.alloc.Global.{Global}
use Rattle.std.specs.List.{slice_get}
use Rattle.std.proofs.lemmas.Bool.{cases_eq, cond-true, cond-false, eq-eqb, ne_eqb}
use Rattle.std.proofs.lemmas.Option.{get_or_from_slice_get, slice_get_within}
use Rattle.std.proofs.lemmas.List.Sums.{get_or-le-sum_by, sum_by-le-sum_by, sum_by-set, sum_by_push}
use Rattle.race_groups.specs.Totals.{entries_at, weighed_sum}

-- one event more, in an entry of its own
pub weighed_push : (w : ℕ → ℕ) (xs : List (ℕ × ℕ)) (t : ℕ) → weighed_sum w (xs ++ (t, 1) ∷ []) ≡ weighed_sum w xs + w t
weighed_push w xs t =
    let more = sum_by_push (λ (e : ℕ × ℕ). e.1 * w e.0) xs (t, 1) in
    omega (arith, more)

-- one more in an entry that is there
one_more : (n m : ℕ) → (n + 1) * m ≡ n * m + m
one_more n m = omega arith

module _ (xs : List (ℕ × ℕ)) (i t n : ℕ) (at : slice_get xs i ≡ Some (t, n)) where
  entry_is : get_or xs i (t, n) ≡ (t, n)
  entry_is = get_or_from_slice_get xs i (t, n) (t, n) at

  pub weighed_set : (w : ℕ → ℕ) → weighed_sum w (set xs i (t, n + 1)) ≡ weighed_sum w xs + w t
  weighed_set w =
      let f : ℕ × ℕ → ℕ = λ e. e.1 * w e.0 in
      let changed = sum_by-set f xs i (t, n + 1) (t, n) (slice_get_within xs i (t, n) at) in
      let here : f (get_or xs i (t, n)) ≡ n * w t = ap f entry_is in
      let now = one_more n (w t) in
      omega (arith, changed, here, now)

  pub entry_le : n ≤ weighed_sum (λ u. 1) xs
  entry_le =
      let f : ℕ × ℕ → ℕ = λ e. e.1 * 1 in
      let le = get_or-le-sum_by f xs i (t, n) (slice_get_within xs i (t, n) at) in
      let here : f (get_or xs i (t, n)) ≡ n * 1 = ap f entry_is in
      omega (arith, le, here)

-- the entries of one class changed
pub entries_set_same : (xs : List (Vec (ℕ × ℕ) Global)) (c : ℕ) (v : Vec (ℕ × ℕ) Global) → c < length xs → entries_at (set xs c v) c ≡ v.items
entries_set_same [] c v lt = absurd (omega arith)
entries_set_same (x ∷ xs) zero v lt = refl
entries_set_same (x ∷ xs) (suc c) v lt = entries_set_same xs c v (omega arith)

pub entries_set_other : (xs : List (Vec (ℕ × ℕ) Global)) (c k : ℕ) (v : Vec (ℕ × ℕ) Global) → k ≢ c → entries_at (set xs c v) k ≡ entries_at xs k
entries_set_other [] c k v ne = refl
entries_set_other (x ∷ xs) zero zero v ne = absurd (ne refl)
entries_set_other (x ∷ xs) zero (suc k) v ne = refl
entries_set_other (x ∷ xs) (suc c) zero v ne = refl
entries_set_other (x ∷ xs) (suc c) (suc k) v ne = entries_set_other xs c k v (λ e. ne (ap suc e))

pub entries_read : (xs : List (Vec (ℕ × ℕ) Global)) (c : ℕ) (v : Vec (ℕ × ℕ) Global) → slice_get xs c ≡ Some v → entries_at xs c ≡ v.items
entries_read [] c v at = cc
entries_read (x ∷ xs) zero v at = cc
entries_read (x ∷ xs) (suc c) v at = entries_read xs c v at

-- what holds of the entries of each class still holds where one class's have changed
pub entries_each : (xs : List (Vec (ℕ × ℕ) Global)) (c : ℕ) (v : Vec (ℕ × ℕ) Global) → c < length xs → (P : ℕ → List (ℕ × ℕ) → Type 0)
    → P c v.items → ((k : ℕ) → k ≢ c → P k (entries_at xs k)) → (k : ℕ) → P k (entries_at (set xs c v) k)
entries_each xs c v lt P here there k = elim (cases_eq k c) [
  | inl is ↦ subst (λ m. P m (entries_at (set xs c v) m)) (sym is) (subst (P c) (sym (entries_set_same xs c v lt)) here)
  | inr ne ↦ subst (P k) (sym (entries_set_other xs c k v ne)) (there k ne)
]

-- one class more, which has none
pub entries_none : (xs : List (Vec (ℕ × ℕ) Global)) (v : Vec (ℕ × ℕ) Global) → ((c : ℕ) → entries_at xs c ≡ []) → v.items ≡ [] → (c : ℕ) → entries_at (xs ++ v ∷ []) c ≡ []
entries_none [] v none empty zero = empty
entries_none [] v none empty (suc c) = refl
entries_none (x ∷ xs) v none empty zero = none 0
entries_none (x ∷ xs) v none empty (suc c) = entries_none xs v (λ k. none (suc k)) empty c

-- they are what was read of the list
pub entries_now : (xs : List (Vec (ℕ × ℕ) Global)) (c : ℕ) (v : Vec (ℕ × ℕ) Global) (now : List (ℕ × ℕ)) → slice_get xs c ≡ Some v → now ≡ v.items → now ≡ entries_at xs c
entries_now xs c v now at is = is ∙ sym (entries_read xs c v at)

-- one event more of a class
pub count_times : (a : ℕ) (b : Bool) (m : ℕ) → (a + cond b 1 0) * m ≡ a * m + cond b m 0
count_times a true m = omega arith
count_times a false m = omega arith

-- the weights of the threads, with one entry more
times_le : (b : Bool) (n : ℕ) → n * cond b 1 0 ≤ n * 1
times_le true n = omega arith
times_le false n = omega arith

pub one_thread_le : (t : ℕ) (xs : List (ℕ × ℕ)) → weighed_sum (λ u. cond (t == u) 1 0) xs ≤ weighed_sum (λ u. 1) xs
one_thread_le t xs =
    let f : ℕ × ℕ → ℕ = λ e. e.1 * cond (t == e.0) 1 0 in
    let g : ℕ × ℕ → ℕ = λ e. e.1 * 1 in
    sum_by-le-sum_by f g xs (λ e. times_le (t == e.0) e.1)

pub weight_here : (t n : ℕ) → n * cond (t == t) 1 0 ≡ n
weight_here t n = ap (λ m. n * m) (cond-true (t == t) 1 0 (eq-eqb t t refl)) ∙ omega arith

pub weights_more : (ws : List ℕ) (a t n : ℕ) → a < length ws → slice_index (set ws a (slice_index ws a + n)) t ≡ slice_index ws t + n * cond (t == a) 1 0
weights_more ws a t n lt = elim (cases_eq t a) [
  | inl is ↦
      let here : slice_index (set ws a (slice_index ws a + n)) a ≡ slice_index ws a + n = get_or-set_same ws a (slice_index ws a + n) 0 lt in
      let one = weight_here a n in
      let both : slice_index (set ws a (slice_index ws a + n)) a ≡ slice_index ws a + n * cond (a == a) 1 0 = omega (arith, here, one) in
      subst (λ k. slice_index (set ws a (slice_index ws a + n)) k ≡ slice_index ws k + n * cond (k == a) 1 0) (sym is) both
  | inr ne ↦
      let there : slice_index (set ws a (slice_index ws a + n)) t ≡ slice_index ws t = get_or-set_other ws a t (slice_index ws a + n) 0 ne in
      let none : n * cond (t == a) 1 0 ≡ n * 0 = ap (λ m. n * m) (cond-false (t == a) 1 0 (ne_eqb t a ne)) in
      omega (arith, there, none)
]
