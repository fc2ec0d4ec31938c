-- The first element that passes, from the front of a list on.
use Rattle.std.proofs.Common.{◌≡◌, ℕ, suc, ◌+◌, ◌<◌, Bool, true, false, cond, List, [], ◌∷◌, ◌++◌, length, take, drop, get_or, Option, Some, None, option_map, refl, sym, ap, ◌∙◌, arith, inl, inr, slice_get, take-append-drop, drop-cons}
use Rattle.std.specs.List.{find}
use Rattle.std.proofs.Math.Seq.{take-add}
use Rattle.std.proofs.lemmas.Bool.{cases_Bool}
use Rattle.std.proofs.lemmas.Option.{slice_get_within, get_or_from_slice_get}

module _ {X : Type 0} (p : X → Bool) where
  find-cons_yes : (x : X) (xs : List X) → p x ≡ true → find p (x ∷ xs) ≡ Some x
  find-cons_yes x xs e = ap (λ b. cond b (Some x) (find p xs)) e

  find-cons_no : (x : X) (xs : List X) → p x ≡ false → find p (x ∷ xs) ≡ find p xs
  find-cons_no x xs e = ap (λ b. cond b (Some x) (find p xs)) e

  -- where none passes in front, the first that passes is the first of the rest
  find-behind : (front rest : List X) → find p front ≡ None → find p (front ++ rest) ≡ find p rest
  find-behind [] rest e = refl
  find-behind (x ∷ front) rest e =
      elim (cases_Bool (p x)) [
        | inl y ↦ (let here = find-cons_yes x front y in cc)
        | inr n ↦ find-cons_no x (front ++ rest) n ∙ find-behind front rest (sym (find-cons_no x front n) ∙ e)
      ]

  module _ (xs : List X) (n : ℕ) (x : X) (at : slice_get xs n ≡ Some x) where
    left : drop n xs ≡ x ∷ drop (suc n) xs
    left = drop-cons xs n x (slice_get_within xs n x at) ∙ ap (λ y. y ∷ drop (suc n) xs) (get_or_from_slice_get xs n x x at)

    -- one more does not pass
    pub find-more : p x ≡ false → find p (take n xs) ≡ None → find p (take (n + 1) xs) ≡ None
    find-more fails none =
        ap (find p) (take-add n 1 xs)
        ∙ find-behind (take n xs) (take 1 (drop n xs)) none
        ∙ ap (λ ys. find p (take 1 ys)) left
        ∙ find-cons_no x [] fails

    -- it is the first that passes
    pub find-here : p x ≡ true → find p (take n xs) ≡ None → find p xs ≡ Some x
    find-here passes none =
        ap (find p) (sym (take-append-drop n xs))
        ∙ find-behind (take n xs) (drop n xs) none
        ∙ ap (find p) left
        ∙ find-cons_yes x (drop (suc n) xs) passes
