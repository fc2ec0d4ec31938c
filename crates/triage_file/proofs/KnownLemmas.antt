-- One pair of places more that is known.
use Rattle.std.proofs.Common.{◌≡◌, ◌≢◌, ◌&&◌, ◌||◌, ◌⊎◌, ℕ, ◌+◌, ◌<◌, Bool, true, false, if◌then◌else◌, List, [], ◌∷◌, ◌++◌, get_or, length, take, Some, refl, ap, sym, ◌∙◌, subst, inl, inr}
use Rattle.std.proofs.lemmas.Bool.{cases_Bool}
use Rattle.std.proofs.lemmas.List.{take_more}
use Rattle.std.proofs.lemmas.List.Folds.{list_any-append}
use Rattle.std.specs.List.{list_any}
use Rattle.indexmap.specs.IndexSet.{insert_key}
use Rattle.race_groups.specs.Rows.{same_places}
use Rattle.race_groups.proofs.RowLemmas.{same_places_are}

or_same : (a b : Bool) → (b ≡ true → a ≡ true) → a ≡ (a || b)
or_same true b h = refl
or_same false true h = h refl
or_same false false h = refl

or_false : (a : Bool) → (a || false) ≡ a
or_false true = refl
or_false false = refl

one_any : (test : ℕ × ℕ → Bool) (p : ℕ × ℕ) → list_any test (p ∷ []) ≡ test p
one_any test p = or_false (test p)

insert_by : (b : Bool) (ks : List (ℕ × ℕ)) (p q : ℕ × ℕ) → list_any (same_places p) ks ≡ b
    → list_any (same_places q) (if b then ks else ks ++ p ∷ []) ≡ (list_any (same_places q) ks || same_places q p)
insert_by true ks p q there =
    or_same (list_any (same_places q) ks) (same_places q p) (λ same. subst (λ k. list_any (same_places k) ks ≡ true) (sym (same_places_are q p same)) there)
insert_by false ks p q gone =
    list_any-append (same_places q) ks (p ∷ []) ∙ ap (λ b. list_any (same_places q) ks || b) (one_any (same_places q) p)

-- what is among the places once one pair more is
pub list_any-insert : (ks : List (ℕ × ℕ)) (p q : ℕ × ℕ) → list_any (same_places q) (insert_key same_places ks p) ≡ (list_any (same_places q) ks || same_places q p)
list_any-insert ks p q = insert_by (list_any (same_places p) ks) ks p q refl

-- a test of one item more
pub list_any-more : {X : Type 0} (test : X → Bool) (xs : List X) (i : ℕ) (d : X) → i < length xs → list_any test (take (i + 1) xs) ≡ (list_any test (take i xs) || test (get_or xs i d))
list_any-more test xs i d lt =
    ap (list_any test) (take_more xs i d lt) ∙ list_any-append test (take i xs) (get_or xs i d ∷ []) ∙ ap (λ b. list_any test (take i xs) || b) (or_false (test (get_or xs i d)))
