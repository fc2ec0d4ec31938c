-- What the ordered set of numbers does, as lists.
use Rattle.std.proofs.Common.{◌≡◌, ◌++◌, All, Contains, ℕ, suc, ◌<◌, ◌≤◌, Bool, ltb, List, [], ◌∷◌, Option, None, Some, Result, Ok, Err, refl, sym, ap, subst, ◌∙◌, arith, inl, inr, Bor, find, slice_get}
use Rattle.std.specs.BTreeSet.{insert_key}
use Rattle.std.specs.List.{filter}
use Rattle.std.specs.Ordering.{nat_cmp, match_ordering}
use Rattle.std.specs.declared.cmp.Ordering.TheVariants.{Greater}
use Rattle.std.specs.Cmp.{nat_cmp_is}
use Rattle.std.proofs.lemmas.Bool.{cases_Bool, cases_lt, lt-ltb, le-ltb}
use Rattle.std.proofs.lemmas.List.Elements.{All-head, All-tail, All-cons, All-weaker, All-nil}
use Rattle.std.specs.BTreeMap.Range.{range_contains}
use Rattle.std.specs.declared.ops.Bound.TheVariants.{Excluded, Unbounded}
use Rattle.std.specs.Option.{option_copied}
use Rattle.std.specs.Result.{OnOk}
use Rattle.std.specs.Map.Iter.{TakesFirst}
use Rattle.std.proofs.lemmas.Bool.Decides.{nat_tests}
use Rattle.dependence.specs.Lists.{IsLeastAbove}
use Rattle.dependence.specs.Rising.{Rises}

-- a number above all others goes to the end
pub insert_last : (k : ℕ) (xs : List ℕ) → All (λ j. j < k) xs → insert_key nat_cmp xs k ≡ xs ++ k ∷ []
insert_last k [] all = refl
insert_last k (x ∷ xs) all =
    subst
    (λ r. match_ordering r (k ∷ x ∷ xs) (x ∷ xs) (x ∷ insert_key nat_cmp xs k) ≡ x ∷ (xs ++ k ∷ []))
    (nat_cmp_is k x Greater (All-head (λ j. j < k) x xs all))
    (ap (λ ys. x ∷ ys) (insert_last k xs (All-tail (λ j. j < k) x xs all)))

-- the first of those that pass a test is the first that passes it
pub first_kept : (p : ℕ → Bool) (xs : List ℕ) → slice_get (filter p xs) 0 ≡ find p xs
first_kept p [] = refl
first_kept p (x ∷ xs) = elim (cases_Bool (p x)) [
  | inl h ↦ rw h refl
  | inr h ↦ rw h (first_kept p xs)
]

-- the test of a range that has only a start, which it leaves out
above_is : (k j : ℕ) → range_contains nat_cmp (Excluded k) Unbounded j ≡ ltb k j
above_is k j = grind (arith, nat_tests)

first_of : (k : ℕ) (xs : List ℕ) → find (λ j. range_contains nat_cmp (Excluded k) Unbounded j) xs ≡ find (λ j. ltb k j) xs
first_of k [] = refl
first_of k (x ∷ xs) = rw (above_is k x, first_of k xs) refl

pub first_above : (k x : ℕ) → x ≡ k → (xs : List ℕ) → find (λ j. range_contains nat_cmp (Excluded x) Unbounded j) xs ≡ find (λ j. ltb k j) xs
first_above k x is xs = ap (λ n. find (λ j. range_contains nat_cmp (Excluded n) Unbounded j) xs) is ∙ first_of k xs

-- what a range of these gives first
pub taken_first : (p : ℕ → Bool) (xs s t : List ℕ) (r : Option (Bor ℕ)) → s ≡ filter p xs → TakesFirst (λ b. b.now) s r t → option_copied r ≡ find p xs
taken_first p xs s t None e none = ap (λ ys. slice_get ys 0) (sym none.0 ∙ e) ∙ first_kept p xs
taken_first p xs s t (Some b) e some = ap (λ ys. slice_get ys 0) (sym some ∙ e) ∙ first_kept p xs

there_later : (x m : ℕ) (xs : List ℕ) → Contains xs m → Contains (x ∷ xs) m
there_later x m xs there = (suc there.0, omega (arith, there.1), there.2)

past_low : (k x : ℕ) (xs : List ℕ) (r : Option ℕ) → x ≤ k → IsLeastAbove k xs r → IsLeastAbove k (x ∷ xs) r
past_low k x xs None low none = All-cons (λ j. j ≤ k) x xs low none
past_low k x xs (Some m) low least = (there_later x m xs least.0, least.1, All-cons (λ j. k < j → m ≤ j) x xs (λ h. absurd (omega arith)) least.2)

-- in a rising list the first number above k is the least
pub first_is_least : (k : ℕ) (xs : List ℕ) → Rises xs → IsLeastAbove k xs (find (λ j. ltb k j) xs)
first_is_least k [] up = All-nil (λ j. j ≤ k)
first_is_least k (x ∷ xs) up = elim (cases_lt k x) [
  | inl low ↦
      let later : All (λ j. k < j → x ≤ j) xs = All-weaker (λ j. x < j) (λ j. k < j → x ≤ j) (λ j h _. omega arith) xs up.0 in
      rw (lt-ltb k x low) ((0, omega arith, refl), low, All-cons (λ j. k < j → x ≤ j) x xs (λ _. omega arith) later)
  | inr high ↦ rw (le-ltb k x high) (past_low k x xs (find (λ j. ltb k j) xs) high (first_is_least k xs up.1))
]

-- where it is put at the end, it is put in its place
pub on_last : {A E : Type 0} (k : ℕ) (xs ys : List ℕ) (r : Result A E) → All (λ j. j < k) xs → OnOk r (ys ≡ xs ++ k ∷ []) → OnOk r (ys ≡ insert_key nat_cmp xs k)
on_last k xs ys (Ok a) low h = h ∙ sym (insert_last k xs low)
on_last k xs ys (Err e) low h = tt
