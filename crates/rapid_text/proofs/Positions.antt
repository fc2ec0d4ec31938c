-- The first element that passes a test.
use Rattle.std.proofs.Common.{◌≡◌, ℕ, ◌<◌, ◌+◌, Bool, true, false, not, cond, List, [], ◌∷◌, map, length, get_or, refl, sym, ap, ◌∙◌, arith, le_refl, inl, inr}
use Rattle.std.specs.Prelude.{Some, None, position, ◌||◌}
use Rattle.std.specs.List.{position_or_len, list_any}
use Rattle.std.proofs.lemmas.Bool.{cases_Bool, cases_lt, cond_below, false≢true}
use Rattle.std.proofs.lemmas.List.{length-map}
use Rattle.std.proofs.lemmas.List.Sums.{position_or_len_is, fails_before_first}
use Rattle.std.proofs.lemmas.List.Folds.{list_any_none, list_any_at}
use Rattle.std.proofs.lemmas.List.Quantifiers.{position-Some}

-- a test that is not true is false
pub not_true : (b : Bool) → ¬ (b ≡ true) → b ≡ false
not_true b never = elim (cases_Bool b) [ inl y ↦ absurd (never y) | inr n ↦ n ]

module _ {X : Type 0} (test : X → Bool) (xs : List X) (d : X) where
  -- where none passes, the first place is past the end
  pub none-position : list_any test xs ≡ false → position_or_len test xs ≡ length xs
  none-position none =
      position_or_len_is test xs (length xs) d (le_refl (length xs))
      (λ k lt. not_true (test (get_or xs k d)) (λ yes. false≢true (sym none ∙ list_any_at test xs k d lt yes)))
      (λ lt. absurd (omega arith))

  -- where one passes, the first one is within
  pub any-position : list_any test xs ≡ true → position_or_len test xs < length xs
  any-position is = elim (cases_lt (position_or_len test xs) (length xs)) [
    | inl lt ↦ lt
    | inr le ↦ absurd (false≢true (sym (list_any_none test xs (λ k d lt. fails_before_first test xs k d (omega arith))) ∙ is))
  ]

  -- where one passes, `position` tells the first
  pub any-found : list_any test xs ≡ true → position test xs ≡ Some (position_or_len test xs)
  any-found is = sym (cond_below (position_or_len test xs) (length xs) (Some (position_or_len test xs)) None (any-position is))

  -- where `position` tells a place, one passes
  pub found-any : (i : ℕ) → position test xs ≡ Some i → list_any test xs ≡ true
  found-any i e = let at = position-Some test xs i d e in list_any_at test xs i d at.0 at.1

  -- the place that `position` tells
  pub found-place : (i : ℕ) → position test xs ≡ Some i → position_or_len test xs ≡ i
  found-place i e = let at = position-Some test xs i d e in position_or_len_is test xs i d (omega (arith, at.0)) at.2 (λ _. at.1)

-- the first place of a list of images
pub position_or_len-map : {X Y : Type 0} (f : X → Y) (test : Y → Bool) (xs : List X) → position_or_len test (map f xs) ≡ position_or_len (λ x. test (f x)) xs
position_or_len-map f test [] = refl
position_or_len-map f test (x ∷ xs) = ap (λ n. cond (not (test (f x))) (1 + n) 0) (position_or_len-map f test xs)

pub list_any-map : {X Y : Type 0} (f : X → Y) (test : Y → Bool) (xs : List X) → list_any test (map f xs) ≡ list_any (λ x. test (f x)) xs
list_any-map f test [] = refl
list_any-map f test (x ∷ xs) = ap (λ b. test (f x) || b) (list_any-map f test xs)

pub position-map : {X Y : Type 0} (f : X → Y) (test : Y → Bool) (xs : List X) → position test (map f xs) ≡ position (λ x. test (f x)) xs
position-map f test xs = rw (position_or_len-map f test xs, length-map xs f) refl
