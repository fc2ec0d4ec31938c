-- The first place that passes, from the front of a list on.
use Rattle.std.proofs.Common.{◌≡◌, ℕ, suc, ◌+◌, ltb, Bool, true, false, not, cond, List, [], ◌∷◌, ◌++◌, length, position, Some, None, option_map, refl, sym, ap, ◌∙◌, arith, inl, inr}
use Rattle.std.specs.List.{position_or_len, AllByRecursion}
use Rattle.std.proofs.lemmas.Bool.{cases_lt, cond_below, cond_above}

module _ {X : Type 0} (p : X → Bool) where
  -- the first element passes
  pub position-cons_yes : (x : X) (xs : List X) → p x ≡ true → position p (x ∷ xs) ≡ Some 0
  position-cons_yes x xs e =
      let place : position_or_len p (x ∷ xs) ≡ 0 = ap (λ c. cond (not c) (1 + position_or_len p xs) 0) e in
      ap (λ n. cond (ltb n (length (x ∷ xs))) (Some n) None) place ∙ sym (cond_below 0 (length (x ∷ xs)) (Some 0) None (omega arith))

  place-cons_no : (x : X) (xs : List X) → p x ≡ false → position_or_len p (x ∷ xs) ≡ suc (position_or_len p xs)
  place-cons_no x xs e =
      let more : 1 + position_or_len p xs ≡ suc (position_or_len p xs) = omega arith in
      ap (λ c. cond (not c) (1 + position_or_len p xs) 0) e ∙ more

  place_of-suc : (n m : ℕ) → cond (ltb (suc n) (suc m)) (Some (suc n)) None ≡ option_map suc (cond (ltb n m) (Some n) None)
  place_of-suc n m =
      elim (cases_lt n m) [ inl lt ↦ sym (cond_below (suc n) (suc m) (Some (suc n)) None (omega arith)) ∙ ap (option_map suc) (cond_below n m (Some n) None lt) | inr ge ↦ sym (cond_above (suc n) (suc m) (Some (suc n)) None None (omega arith) refl) ∙ ap (option_map suc) (cond_above n m (Some n) None None ge refl) ]

  -- the first element does not pass
  pub position-cons_no : (x : X) (xs : List X) → p x ≡ false → position p (x ∷ xs) ≡ option_map suc (position p xs)
  position-cons_no x xs e =
      ap (λ n. cond (ltb n (length (x ∷ xs))) (Some n) None) (place-cons_no x xs e) ∙ place_of-suc (position_or_len p xs) (length xs)

  -- none before x passes, and x does
  pub position-at : (front : List X) (x : X) (rest : List X) → AllByRecursion (λ y. p y ≡ false) front → p x ≡ true → position p (front ++ x ∷ rest) ≡ Some (length front)
  position-at [] x rest none e = position-cons_yes x rest e
  position-at (y ∷ front) x rest none e =
      position-cons_no y (front ++ x ∷ rest) none.0 ∙ ap (option_map suc) (position-at front x rest none.1 e)

  -- none passes
  pub position-nowhere : (xs : List X) → AllByRecursion (λ y. p y ≡ false) xs → position p xs ≡ None
  position-nowhere [] none = refl
  position-nowhere (y ∷ xs) none = position-cons_no y xs none.0 ∙ ap (option_map suc) (position-nowhere xs none.1)

  -- one more does not pass
  pub none-push : (xs : List X) (x : X) → AllByRecursion (λ y. p y ≡ false) xs → p x ≡ false → AllByRecursion (λ y. p y ≡ false) (xs ++ x ∷ [])
  none-push [] x none e = (e, tt)
  none-push (y ∷ xs) x none e = (none.0, none-push xs x none.1 e)
