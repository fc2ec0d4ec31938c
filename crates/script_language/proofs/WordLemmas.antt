-- What stands between the elements that pass a test: the parts that are not empty.
use Rattle.std.proofs.Common.{◌≡◌, ℕ, suc, ◌+◌, ltb, Bool, true, false, cond, List, [], ◌∷◌, length, take, drop, get_or, filter, not, ◌<◌, refl, sym, ap, ◌∙◌, subst, arith, inl, inr}
use Rattle.std.specs.List.{slice_split, onto_first, prefix_len, position_or_len}
use Rattle.std.proofs.lemmas.Bool.{cases_Bool, cond_below}
use Rattle.std.proofs.lemmas.List.Splits.{slice_split-cons_yes, slice_split-cons_no}

-- the parts that are not empty
abbrev pub full_parts : List (List ℕ) → List (List ℕ)
full_parts parts = filter (λ part. ltb 0 (length part)) parts

-- a part that is not empty stays
full_parts-cons : (y : ℕ) (ys : List ℕ) (parts : List (List ℕ)) → full_parts ((y ∷ ys) ∷ parts) ≡ (y ∷ ys) ∷ full_parts parts
full_parts-cons y ys parts =
    sym (cond_below 0 (length (y ∷ ys)) ((y ∷ ys) ∷ full_parts parts) (full_parts parts) (omega arith))

module _ (p : ℕ → Bool) where
  -- the words between the elements that pass
  abbrev pub words : List ℕ → List (List ℕ)
  words xs = full_parts (slice_split p xs)

  pub words-cons_yes : (x : ℕ) (xs : List ℕ) → p x ≡ true → words (x ∷ xs) ≡ words xs
  words-cons_yes x xs e = ap full_parts (slice_split-cons_yes p x xs e)

  prefix_len-cons_yes : (x : ℕ) (xs : List ℕ) → p x ≡ true → prefix_len p (x ∷ xs) ≡ suc (prefix_len p xs)
  prefix_len-cons_yes x xs e =
      let more : 1 + prefix_len p xs ≡ suc (prefix_len p xs) = omega arith in
      ap (λ c. cond c (1 + prefix_len p xs) 0) e ∙ more

  prefix_len-cons_no : (x : ℕ) (xs : List ℕ) → p x ≡ false → prefix_len p (x ∷ xs) ≡ 0
  prefix_len-cons_no x xs e = ap (λ c. cond c (1 + prefix_len p xs) 0) e

  -- what passes at the front holds no word
  pub words-drop : (xs : List ℕ) → words (drop (prefix_len p xs) xs) ≡ words xs
  words-drop [] = refl
  words-drop (x ∷ xs) =
      elim (cases_Bool (p x)) [ inl y ↦ ap (λ n. words (drop n (x ∷ xs))) (prefix_len-cons_yes x xs y) ∙ words-drop xs ∙ sym (words-cons_yes x xs y) | inr n ↦ ap (λ k. words (drop k (x ∷ xs))) (prefix_len-cons_no x xs n) ]

  position-cons_yes : (x : ℕ) (xs : List ℕ) → p x ≡ true → position_or_len p (x ∷ xs) ≡ 0
  position-cons_yes x xs e = ap (λ c. cond (not c) (1 + position_or_len p xs) 0) e

  position-cons_no : (x : ℕ) (xs : List ℕ) → p x ≡ false → position_or_len p (x ∷ xs) ≡ suc (position_or_len p xs)
  position-cons_no x xs e =
      let more : 1 + position_or_len p xs ≡ suc (position_or_len p xs) = omega arith in
      ap (λ c. cond (not c) (1 + position_or_len p xs) 0) e ∙ more

  -- the first part, and what the others hold
  pub record FirstPart (xs : List ℕ) : Type 0 where
    pub others : List (List ℕ)
    pub split : slice_split p xs ≡ take (position_or_len p xs) xs ∷ others
    pub words_left : full_parts others ≡ words (drop (position_or_len p xs) xs)

  first_part-cons : (x : ℕ) (xs : List ℕ) (b : Bool) → p x ≡ b → FirstPart xs → FirstPart (x ∷ xs)
  first_part-cons x xs true e first =
      let k = position-cons_yes x xs e in
      record {
        others = slice_split p xs;
        split = slice_split-cons_yes p x xs e ∙ ap (λ n. take n (x ∷ xs) ∷ slice_split p xs) (sym k);
        words_left = sym (words-cons_yes x xs e) ∙ ap (λ n. words (drop n (x ∷ xs))) (sym k);
      }
  first_part-cons x xs false e first =
      let k = position-cons_no x xs e in
      record {
        others = first.others;
        split =
            slice_split-cons_no p x xs e
            ∙ ap (onto_first x) first.split
            ∙ ap (λ n. take n (x ∷ xs) ∷ first.others) (sym k);
        words_left = first.words_left ∙ ap (λ n. words (drop n (x ∷ xs))) (sym k);
      }

  pub first_part : (xs : List ℕ) → FirstPart xs
  first_part [] = record { others = []; split = refl; words_left = refl }
  first_part (x ∷ xs) =
      elim (cases_Bool (p x)) [ inl y ↦ first_part-cons x xs true y (first_part xs) | inr n ↦ first_part-cons x xs false n (first_part xs) ]

  -- nothing holds no word
  pub words-empty : (xs : List ℕ) → length xs ≡ 0 → words xs ≡ []
  words-empty [] e = refl
  words-empty (x ∷ xs) e = absurd (omega (arith, e))

  -- what stands after the longest front that passes begins with an element that does not
  first_fails : (xs : List ℕ) → 0 < length (drop (prefix_len p xs) xs) → p (get_or (drop (prefix_len p xs) xs) 0 0) ≡ false
  first_fails [] lt = absurd (omega (arith, lt))
  first_fails (x ∷ xs) lt =
      elim (cases_Bool (p x)) [
        | inl y ↦ (
            let k = prefix_len-cons_yes x xs y in
            ap (λ n. p (get_or (drop n (x ∷ xs)) 0 0)) k ∙ first_fails xs (subst (λ n. 0 < length (drop n (x ∷ xs))) k lt)
            )
        | inr n ↦ ap (λ m. p (get_or (drop m (x ∷ xs)) 0 0)) (prefix_len-cons_no x xs n) ∙ n
      ]

  words-first : (xs : List ℕ) → 0 < length xs → p (get_or xs 0 0) ≡ false → words xs ≡ take (position_or_len p xs) xs ∷ words (drop (position_or_len p xs) xs)
  words-first [] lt e = absurd (omega (arith, lt))
  words-first (x ∷ xs) lt e =
      let first = first_part (x ∷ xs) in
      let k = position-cons_no x xs e in
      ap full_parts first.split
      ∙ ap (λ n. full_parts (take n (x ∷ xs) ∷ first.others)) k
      ∙ full_parts-cons x (take (position_or_len p xs) xs) first.others
      ∙ ap (λ ws. take (suc (position_or_len p xs)) (x ∷ xs) ∷ ws) first.words_left
      ∙ ap (λ n. take n (x ∷ xs) ∷ words (drop (position_or_len p (x ∷ xs)) (x ∷ xs))) (sym k)

  -- the first word is what stands after that front and before the next element that passes
  pub words-next : (xs rest : List ℕ) → rest ≡ drop (prefix_len p xs) xs → 0 < length rest → words xs ≡ take (position_or_len p rest) rest ∷ words (drop (position_or_len p rest) rest)
  words-next xs rest e lt =
      sym (words-drop xs)
      ∙ ap words (sym e)
      ∙ words-first rest lt (ap (λ r. p (get_or r 0 0)) e ∙ first_fails xs (subst (λ r. 0 < length r) e lt))
