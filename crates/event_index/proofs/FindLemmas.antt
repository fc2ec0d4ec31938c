-- What a look for the first element that passes a test tells, of any list.
use Rattle.std.proofs.Common.{◌≡◌, zero, suc, Bool, true, false, cond, List, [], ◌∷◌, find, All, Contains, Some, None, sym, refl, ap, ◌∙◌, arith, inl, inr}
use Rattle.std.proofs.lemmas.Bool.{cases_Bool, cond-true, cond-false}
use Rattle.std.proofs.lemmas.List.Elements.{All-nil, All-cons, All-head, All-tail}
use Rattle.std.proofs.lemmas.Option.{none-some, same_Some}

module _ {X : Type 0} (p : X → Bool) where
  -- what is found is a member
  pub find-member : (xs : List X) (x : X) → find p xs ≡ Some x → Contains xs x
  find-member [] x is = absurd (none-some x is)
  find-member (y ∷ xs) x is = elim (cases_Bool (p y)) [
    | inl passes ↦ (zero, omega arith, same_Some y x (sym (cond-true (p y) (Some y) (find p xs) passes) ∙ is))
    | inr fails ↦
        let later = find-member xs x (sym (cond-false (p y) (Some y) (find p xs) fails) ∙ is) in
        (suc later.0, omega (arith, later.1), later.2)
  ]

  -- and passes
  pub find-passes : (xs : List X) (x : X) → find p xs ≡ Some x → p x ≡ true
  find-passes [] x is = absurd (none-some x is)
  find-passes (y ∷ xs) x is = elim (cases_Bool (p y)) [
    | inl passes ↦ rw (← same_Some y x (sym (cond-true (p y) (Some y) (find p xs) passes) ∙ is)) passes
    | inr fails ↦ find-passes xs x (sym (cond-false (p y) (Some y) (find p xs) fails) ∙ is)
  ]

  -- nothing is found exactly where each element fails
  pub find-all_fail : (xs : List X) → find p xs ≡ None → All (λ x. p x ≡ false) xs
  find-all_fail [] none = All-nil (λ x. p x ≡ false)
  find-all_fail (y ∷ xs) none = elim (cases_Bool (p y)) [
    | inl passes ↦ absurd (none-some y (sym none ∙ cond-true (p y) (Some y) (find p xs) passes))
    | inr fails ↦ All-cons (λ x. p x ≡ false) y xs fails (find-all_fail xs (sym (cond-false (p y) (Some y) (find p xs) fails) ∙ none))
  ]

  pub all_fail-find : (xs : List X) → All (λ x. p x ≡ false) xs → find p xs ≡ None
  all_fail-find [] all = refl
  all_fail-find (y ∷ xs) all =
      cond-false (p y) (Some y) (find p xs) (All-head (λ x. p x ≡ false) y xs all) ∙ all_fail-find xs (All-tail (λ x. p x ≡ false) y xs all)

  pub find-fails : (xs : List X) (x : X) → find p xs ≡ None → Contains xs x → p x ≡ false
  find-fails xs x none (k, lt, at) = rw (← at) (find-all_fail xs none k x lt)

-- two tests that agree find the same
pub find-same : {X : Type 0} (p r : X → Bool) → ((x : X) → p x ≡ r x) → (xs : List X) → find p xs ≡ find r xs
find-same p r same [] = refl
find-same p r same (x ∷ xs) = ap (λ b. cond b (Some x) (find p xs)) (same x) ∙ ap (cond (r x) (Some x)) (find-same p r same xs)
