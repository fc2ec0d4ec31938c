-- Lists of numbers that grow, each number taken in once, with marks that tell which are there.
use Rattle.std.proofs.Common.{◌≡◌, ◌≢◌, ℕ, ◌<◌, ◌≤◌, ◌⊎◌, ◌||◌, Bool, true, false, eqb, List, [], ◌∷◌, ◌++◌, length, take, get_or, set, Contains, Option, Some, sym, refl, ap, ◌∙◌, arith, inl, inr, get_or-set_other}
use Rattle.std.specs.List.{list_any}
use Rattle.std.proofs.Math.Bool.{or-false}
use Rattle.std.proofs.lemmas.Bool.{cases_eq, eqb-true, ne_eqb, true≢false}
use Rattle.std.proofs.lemmas.Bool.Decides.{Decides-eqb}
use Rattle.std.proofs.lemmas.Grind.{get_or-set_at}
use Rattle.std.proofs.lemmas.List.{get_or_default, take_all, take_at, take-take, get_or-take, length-take, length-set}
use Rattle.std.proofs.lemmas.List.Elements.{Contains-push, Contains-push_cases, Contains-get_or}
use Rattle.std.proofs.lemmas.List.Folds.{Any-from_list_any, list_any-append}
use Rattle.std.proofs.lemmas.List.Quantifiers.{all_pairs_push}
use Rattle.std.proofs.lemmas.Map.Made.{IsDistinct-from_AllPairs}
use Rattle.std.proofs.lemmas.Map.Steps.{length-le_from_distinct_below}
use Rattle.schedule.specs.Refusals.{is_in}
use Rattle.schedule.specs.Reordering.{IsPrefix}
use Rattle.schedule.proofs.CallerLemmas.{is_in-member}
use Rattle.witness_search.specs.Searches.{is_marked, AreFound, Adds}

pub get_or-prefix : (xs ys : List ℕ) → IsPrefix xs ys → (k d : ℕ) → k < length xs → get_or ys k d ≡ get_or xs k d
get_or-prefix xs ys begins k d lt = sym (get_or-take (length xs) ys k d lt) ∙ ap (λ zs. get_or zs k d) begins

IsPrefix-le : (xs ys : List ℕ) → IsPrefix xs ys → length xs ≤ length ys
IsPrefix-le xs ys is = omega (arith, ap length is, length-take (length xs) ys)

-- what is in a beginning of a list is in the list, at its place
pub Contains-prefix : (xs ys : List ℕ) → IsPrefix xs ys → (e : ℕ) → Contains xs e → Contains ys e
Contains-prefix xs ys begins e (k, lt, at) = (k, omega (arith, lt, IsPrefix-le xs ys begins), get_or-prefix xs ys begins k e lt ∙ at)

pub IsPrefix-self : (xs : List ℕ) → IsPrefix xs xs
IsPrefix-self xs = take_all (length xs) xs (omega arith)

pub IsPrefix-push : (xs : List ℕ) (e : ℕ) → IsPrefix xs (xs ++ e ∷ [])
IsPrefix-push xs e = take_at xs (e ∷ []) (length xs) refl

pub IsPrefix-trans : (xs ys zs : List ℕ) → IsPrefix xs ys → IsPrefix ys zs → IsPrefix xs zs
IsPrefix-trans xs ys zs first second = sym (take-take (length xs) (length ys) zs (IsPrefix-le xs ys first)) ∙ ap (take (length xs)) second ∙ first

-- nothing is added where all of it is there
pub Adds-none : (Q : ℕ → Type 0) (xs : List ℕ) → ((e : ℕ) → Q e → Contains xs e) → Adds Q xs xs
Adds-none Q xs all = record { begins = IsPrefix-self xs; has = all; only = λ e m. inl m }

-- and then more
pub Adds-then : (Q R : ℕ → Type 0) (xs ys zs : List ℕ) → Adds Q xs ys → Adds R ys zs → Adds (λ e. Q e ⊎ R e) xs zs
Adds-then Q R xs ys zs first second = record {
  begins = IsPrefix-trans xs ys zs first.begins second.begins;
  has = λ e either. elim either [
    | inl q ↦ Contains-prefix ys zs second.begins e (first.has e q)
    | inr r ↦ second.has e r
  ];
  only = λ e m. elim (second.only e m) [
    | inl earlier ↦ elim (first.only e earlier) [ inl old ↦ inl old | inr q ↦ inr (inl q) ]
    | inr r ↦ inr (inr r)
  ];
}

is_in-push_other : (P : List ℕ) (x e : ℕ) → (x ≡ e → ⊥) → is_in (P ++ x ∷ []) e ≡ is_in P e
is_in-push_other P x e other =
    list_any-append (λ d. eqb d e) P (x ∷ []) ∙ ap (λ b. list_any (λ d. eqb d e) P || (b || false)) (ne_eqb x e other) ∙ or-false (is_in P e)

-- a number that is not marked is taken in
pub AreFound-push : (P : List ℕ) (marks : List Bool) (x : ℕ) → AreFound P marks → x < length marks → is_marked marks x ≡ false → AreFound (P ++ x ∷ []) (set marks x true)
AreFound-push P marks x found lt fresh = record {
  marked = λ e. elim (cases_eq e x) [
    | inl same ↦
        get_or-set_at marks x e true false same lt
        ∙ sym (is_in-member (P ++ x ∷ []) e (rw same (Contains-push P x)))
    | inr other ↦
        get_or-set_other marks x e true false other ∙ found.marked e ∙ sym (is_in-push_other P x e (λ is. other (sym is)))
  ];
  within = λ e m. elim (Contains-push_cases P x e m) [
    | inl earlier ↦ omega (arith, found.within e earlier, length-set marks x true)
    | inr last ↦ omega (arith, last, lt, length-set marks x true)
  ];
  distinct = all_pairs_push (λ a b. a ≢ b) P x found.distinct (λ k d low same.
      let within : Contains P x = rw (← same) (Contains-get_or P k d low) in
      true≢false (sym (is_in-member P x within) ∙ sym (found.marked x) ∙ fresh));
}

-- they are at most as many as the marks
pub AreFound-length : (P : List ℕ) (marks : List Bool) → AreFound P marks → length P ≤ length marks
AreFound-length P marks found =
    length-le_from_distinct_below P (length marks) (IsDistinct-from_AllPairs Decides-eqb P found.distinct) (λ q there.
    let (k, x, lt, at, same) = Any-from_list_any (eqb q) P there in
    found.within q (k, lt, get_or_default P k q x lt ∙ at ∙ sym (eqb-true q x same)))

-- what is added, under another name
pub Adds-same : {o p : Option ℕ} {xs ys : List ℕ} → p ≡ o → Adds (λ e. p ≡ Some e) xs ys → Adds (λ e. o ≡ Some e) xs ys
Adds-same same adds = rw (← same) adds
