-- Text cut at the first byte that passes a test, or at the last.
use Rattle.std.proofs.Common.{◌≡◌, ℕ, ◌+◌, ◌-◌, ◌<◌, ◌≤◌, Bool, true, false, not, List, [], ◌∷◌, ◌++◌, length, take, drop, All, refl, sym, ap, ◌∙◌, arith, inl, inr, append_assoc, take_at, drop_at}
use Rattle.std.specs.List.{position_or_len, suffix_len, list_any, before_first, after_first, before_last}
use Rattle.std.proofs.lemmas.Bool.{cases_lt, false≢true, or_parts}
use Rattle.std.proofs.lemmas.List.{length-append, length-take, length-drop, get_or_append_left, get_or_at, get_or-take, length_push, drop_all}
use Rattle.std.proofs.lemmas.List.Elements.{All-nil, All-cons}
use Rattle.std.proofs.lemmas.List.Folds.{list_any_none}
use Rattle.std.proofs.lemmas.List.Sums.{position_or_len_is, fails_before_first}
use Rattle.rapid_text.proofs.Trims.{back-append}

-- the byte does not pass the test
abbrev pub Fails : (ℕ → Bool) → ℕ → Type 0
Fails p c = p c ≡ false

-- where the test of the whole passes, there is a first place that passes
pub has-first : {X : Type 0} (p : X → Bool) (xs : List X) → list_any p xs ≡ true
    → position_or_len p xs < length xs
has-first p xs any =
    elim (cases_lt (position_or_len p xs) (length xs)) [
      | inl lt ↦ lt
      | inr ge ↦ absurd (false≢true (sym (list_any_none p xs (λ k d lt. fails_before_first p xs k d (omega arith))) ∙ any))
    ]

module _ (p : ℕ → Bool) where
  -- where the test of the whole text fails, each byte fails
  pub fails-each : (xs : List ℕ) → list_any p xs ≡ false → All (Fails p) xs
  fails-each [] e = All-nil (Fails p)
  fails-each (x ∷ xs) e =
      let parts = or_parts (p x) (list_any p xs) e in
      All-cons (Fails p) x xs parts.0 (fails-each xs parts.1)

  -- no byte before the first one that passes does
  pub before_first-fails : (xs : List ℕ) → All (Fails p) (before_first p xs)
  before_first-fails xs k d lt =
      let within : k < position_or_len p xs = omega (arith, length-take (position_or_len p xs) xs) in
      ap p (get_or-take (position_or_len p xs) xs k d within) ∙ fails_before_first p xs k d within

  -- the two parts and the byte between them are the whole
  pub length-parts : (xs : List ℕ) → position_or_len p xs < length xs
      → length (before_first p xs) + 1 + length (after_first p xs) ≡ length xs
  length-parts xs lt = omega (arith, length-take (position_or_len p xs) xs, length-drop (position_or_len p xs + 1) xs)

  -- where no byte passes, nothing stands behind
  pub after_first-none : (xs : List ℕ) → length xs ≤ position_or_len p xs → after_first p xs ≡ []
  after_first-none xs ge = drop_all (position_or_len p xs + 1) xs (omega arith)

  pub length-before_first-le : (xs : List ℕ) → length (before_first p xs) ≤ length xs
  length-before_first-le xs = omega (arith, length-take (position_or_len p xs) xs)

  module _ (xs : List ℕ) (y : ℕ) (ys : List ℕ) (fails : All (Fails p) xs) (passes : p y ≡ true) where
    first-at : position_or_len p (xs ++ y ∷ ys) ≡ length xs
    first-at =
        position_or_len_is p (xs ++ y ∷ ys) (length xs) 0 (omega (arith, length-append xs (y ∷ ys))) (λ k lt. ap p (get_or_append_left xs (y ∷ ys) 0 k lt) ∙ fails k 0 lt) (λ _. ap p (get_or_at xs y ys 0 (length xs) refl) ∙ passes)

    -- the text before the one byte that passes first
    pub before_first-at : before_first p (xs ++ y ∷ ys) ≡ xs
    before_first-at = ap (λ (n : ℕ). take n (xs ++ y ∷ ys)) first-at ∙ take_at xs (y ∷ ys) (length xs) refl

    -- and the text after it
    pub after_first-at : after_first p (xs ++ y ∷ ys) ≡ ys
    after_first-at =
        ap (λ (n : ℕ). drop (n + 1) (xs ++ y ∷ ys)) first-at
        ∙ ap (drop (length xs + 1)) (sym (append_assoc xs (y ∷ []) ys))
        ∙ drop_at (xs ++ y ∷ []) ys (length xs + 1) (length_push xs y)

-- the text before its last byte, where that one passes
pub before_last-push : (p : ℕ → Bool) (xs : List ℕ) (y : ℕ) → p y ≡ true → before_last p (xs ++ y ∷ []) ≡ xs
before_last-push p xs y passes =
    let none : suffix_len (λ x. not (p x)) (xs ++ y ∷ []) ≡ 0 = back-append (λ x. not (p x)) xs y [] refl (ap not passes) in
    take_at xs (y ∷ []) (length (xs ++ y ∷ []) - suffix_len (λ x. not (p x)) (xs ++ y ∷ []) - 1) (omega (arith, length_push xs y))

-- a text with a last byte is longer than what stands before it
pub length-before_last-lt : (p : ℕ → Bool) (xs : List ℕ) → 0 < length (before_last p xs)
    → length (before_last p xs) + 1 ≤ length xs
length-before_last-lt p xs some =
    omega (arith, length-take (length xs - suffix_len (λ x. not (p x)) xs - 1) xs)
