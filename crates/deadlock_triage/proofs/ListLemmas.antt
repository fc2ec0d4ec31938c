-- Elements of lists by their indices.
use Rattle.std.proofs.Common.{◌≡◌, ℕ, zero, suc, ◌+◌, ◌-◌, ◌<◌, ◌⊎◌, AllPairs, List, [], ◌∷◌, ◌++◌, length, get_or, Some, Contains, All, refl, sym, ap, ◌∙◌, subst, arith, inl, inr, add-one}
use Rattle.std.specs.List.{slice_get}
use Rattle.std.proofs.lemmas.List.{get_or_default}
use Rattle.std.proofs.lemmas.Option.{get_or_from_slice_get, slice_get-get_or, slice_get_within}

pub length-cons : {X : Type 0} (x : X) (xs : List X) → length (x ∷ xs) ≡ length xs + 1
length-cons x xs = sym (add-one (length xs))

pub get_before : {X : Type 0} (xs : List X) (y : X) (k : ℕ) (x : X) → slice_get xs k ≡ Some x → slice_get (xs ++ y ∷ []) k ≡ Some x
get_before [] y k x at = cc
get_before (z ∷ xs) y zero x at = at
get_before (z ∷ xs) y (suc k) x at = get_before xs y k x at

-- the last element
pub get_last : {X : Type 0} (xs : List X) (y : X) → slice_get (xs ++ y ∷ []) (length xs) ≡ Some y
get_last [] y = refl
get_last (x ∷ xs) y = get_last xs y

-- an element of the longer list is one of the shorter, or the last
pub get_either : {X : Type 0} (xs : List X) (y : X) (k : ℕ) (x : X) → slice_get (xs ++ y ∷ []) k ≡ Some x → (slice_get xs k ≡ Some x) ⊎ ((k ≡ length xs) × (y ≡ x))
get_either [] y zero x at = inr (refl, cc)
get_either [] y (suc k) x at = cc
get_either (z ∷ xs) y zero x at = inl at
get_either (z ∷ xs) y (suc k) x at =
    elim (get_either xs y k x at) [
      | inl early ↦ inl early
      | inr late ↦ inr (ap suc late.0, late.1)
    ]

pub Contains-at : {X : Type 0} (xs : List X) (k : ℕ) (x : X) → slice_get xs k ≡ Some x → Contains xs x
Contains-at xs k x at = (k, slice_get_within xs k x at, get_or_from_slice_get xs k x x at)

pub at-Contains : {X : Type 0} (xs : List X) (x : X) → Contains xs x → (k : ℕ) × (slice_get xs k ≡ Some x)
at-Contains xs x (k, lt, at) = (k, slice_get-get_or xs k x lt ∙ ap Some at)

pub All-at : {X : Type 0} (P : X → Type 0) (xs : List X) → ((k : ℕ) (x : X) → slice_get xs k ≡ Some x → P x) → All P xs
All-at P xs each = λ k d lt. each k (get_or xs k d) (slice_get-get_or xs k d lt)

-- numbers each of which is greater than the one before it
module _ (xs : List ℕ) (steps : (k : ℕ) → k < length xs → 0 < k → get_or xs (k - 1) 0 < get_or xs k 0) where
  one_step : (k : ℕ) → k + 1 < length xs → get_or xs k 0 < get_or xs (k + 1) 0
  one_step k lt =
      let same : k + 1 - 1 ≡ k = omega arith in
      subst (λ (m : ℕ). get_or xs m 0 < get_or xs (k + 1) 0) same (steps (k + 1) lt (omega arith))

  many_steps : (n i : ℕ) → i + n + 1 < length xs → get_or xs i 0 < get_or xs (i + n + 1) 0
  many_steps zero i lt =
      let same : i + 1 ≡ i + zero + 1 = omega arith in
      subst (λ (m : ℕ). get_or xs i 0 < get_or xs m 0) same (one_step i (omega (arith, lt)))
  many_steps (suc n) i lt =
      let same : i + n + 1 + 1 ≡ i + suc n + 1 = omega arith in
      let first = many_steps n i (omega (arith, lt)) in
      let last = one_step (i + n + 1) (omega (arith, lt)) in
      subst (λ (m : ℕ). get_or xs i 0 < get_or xs m 0) same (omega (arith, first, last))

  pub rising-steps : AllPairs ◌<◌ xs
  rising-steps i j d lt le =
      let same : i + (j - (i + 1)) + 1 ≡ j = omega (arith, lt) in
      let low : get_or xs i 0 < get_or xs j 0 =
      subst (λ (m : ℕ). get_or xs i 0 < get_or xs m 0) same (many_steps (j - (i + 1)) i (omega (arith, lt, le))) in
      let one = get_or_default xs i d 0 (omega (arith, lt, le)) in
      let two = get_or_default xs j d 0 le in
      omega (arith, low, one, two)
