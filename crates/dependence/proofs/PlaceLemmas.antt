-- The list of a name's numbers, changed in its place.
use Rattle.std.proofs.Common.{◌≡◌, ℕ, Bool, true, false, cond, eqb, List, Some, Result, Ok, Err, slice_get, bytes_eq, refl, sym, ap, ◌∙◌, inl, inr}
use Rattle.std.specs.Result.{OnOk, OnErr}
use Rattle.std.specs.Cmp.Lexicographic.{nat_list_eq_equiv}
use Rattle.std.specs.List.{list_any}
use Rattle.std.specs.Map.{lookup}
use Rattle.indexmap.specs.IndexMap.{IndexMap, with_value_at, IsUnique}
use Rattle.indexmap.proofs.CallerLemmas.{updates-with_value_at}
use Rattle.moves.proofs.NameLemmas.{bytes_tells, eq-bytes}
use Rattle.dependence.specs.Lists.{Lists, under, listed, Same}
use Rattle.dependence.specs.Places.{HasAt}

-- what a call ensures where it succeeds leads to more
pub on_ok : {A E : Type 0} (r : Result A E) (P Q : Type 0) → (P → Q) → OnOk r P → OnOk r Q
on_ok (Ok a) P Q f h = f h
on_ok (Err e) P Q f h = h

-- and where it fails
pub on_err : {A E : Type 0} (r : Result A E) (P Q : Type 0) → (P → Q) → OnErr r P → OnErr r Q
on_err (Ok a) P Q f h = h
on_err (Err e) P Q f h = f h

-- the list that stands there is the one that is meant
pub list_there : (T : Lists) (at : ℕ) (x y xs : List ℕ) → (has : HasAt T at x) → slice_get T at ≡ Some (y, xs) → xs ≡ has.list
list_there T at x y xs has is =
    let same : Some (y, xs) ≡ Some (x, has.list) = sym is ∙ has.there in
    let pair : (y, xs) ≡ (x, has.list) = cc in
    ap (λ (p : List ℕ × List ℕ). p.1) pair

module _ {S : Type 0} (m : IndexMap (List ℕ) (List ℕ) S) (at : ℕ) (x : List ℕ) (has : HasAt m.entries at x) (unique : IsUnique bytes_eq m) where
  -- a list that comes of the one that stood there
  pub under_changed : (f : List ℕ → List ℕ) (w : List ℕ) → w ≡ f has.list → (y : List ℕ) → under (with_value_at m at w).entries y ≡ cond (bytes_eq y x) (f (under m.entries y)) (under m.entries y)
  under_changed f w is y =
      let changed = updates-with_value_at m at w nat_list_eq_equiv unique x has.list has.there in
      elim (bytes_tells y x) [
        | inl h ↦
            let old : under m.entries y ≡ has.list = ap (λ z. under m.entries z) h.1 ∙ ap listed has.found in
            let new : under (with_value_at m at w).entries y ≡ w = ap listed (changed.0 y ∙ ap (λ b. cond b (Some w) (lookup (bytes_eq y) m.entries)) (eq-bytes x y (sym h.1))) in
            new ∙ is ∙ ap f (sym old) ∙ sym (ap (λ b. cond b (f (under m.entries y)) (under m.entries y)) h.0)
        | inr h ↦ elim (bytes_tells x y) [
          | inl g ↦ absurd (h.1 (sym g.1))
          | inr g ↦ ap listed (changed.0 y ∙ ap (λ b. cond b (Some w) (lookup (bytes_eq y) m.entries)) g.0) ∙ sym (ap (λ b. cond b (f (under m.entries y)) (under m.entries y)) h.0)
        ]
      ]

  -- a list without a number that comes in its place
  pub gone_there : (k : ℕ) (w : List ℕ) → list_any (eqb k) w ≡ false → list_any (eqb k) (under (with_value_at m at w).entries x) ≡ false
  gone_there k w gone =
      let now : under (with_value_at m at w).entries x ≡ w = under_changed (λ _. w) w refl x ∙ ap (λ b. cond b w (under m.entries x)) (eq-bytes x x refl) in
      ap (list_any (eqb k)) now ∙ gone

  -- the list that stood there
  pub same_kept : (w : List ℕ) → w ≡ has.list → Same m.entries (with_value_at m at w).entries
  same_kept w is y = under_changed (λ l. l) w is y ∙ by (bytes_eq y x)
    where
      by : (b : Bool) → cond b (under m.entries y) (under m.entries y) ≡ under m.entries y
      by true = refl
      by false = refl
