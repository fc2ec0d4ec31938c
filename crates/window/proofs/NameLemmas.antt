-- Tables of names: each name once, its number, and the numbers of one table as those of another.
use Rattle.std.proofs.Common.{◌≡◌, ℕ, ◌+◌, ◌<◌, ◌≤◌, Bool, true, false, cond, not, nat_lt, ◌||◌, List, [], ◌∷◌, ◌++◌, length, filter, bytes_eq, sym, ap, ◌∙◌, subst, arith, append_assoc, append-nil, inl, inr}
use Rattle.std.specs.List.{list_any, IsDistinct, position_or_len}
use Rattle.std.specs.Cmp.Lexicographic.{bytes_decides}
use Rattle.std.proofs.lemmas.Bool.{cases_Bool, cases_lt, cases_eq, lt-ltb, le-ltb, false≢true, or_left, or_right}
use Rattle.std.proofs.lemmas.Cmp.{nat_list_eq_equiv}
use Rattle.std.proofs.lemmas.List.Folds.{list_any_at}
use Rattle.std.proofs.lemmas.Map.Keys.{IsDistinct-push, apart_from_distinct}
use Rattle.std.proofs.lemmas.Map.Made.{length-le_from_is_member}
use Rattle.rapid_text.specs.Canonical.{name_at}
use Rattle.rapid_text.specs.Growth.{with_name as noted}
use Rattle.rapid_text.specs.Reading.{first_uses, number_of}
use Rattle.rapid_text.proofs.FirstUses.{first_uses-push}
use Rattle.rapid_text.proofs.Numbering.{old_name, new_name, number_of-is, IsNumber-within}
use Rattle.rapid_text.proofs.NameNumbers.{has, bytes_eq-refl, name_at-number_of}
use Rattle.rapid_text.proofs.Positions.{any-found}

distinct_noted : (names : List (List ℕ)) (x : List ℕ) → IsDistinct bytes_eq names → IsDistinct bytes_eq (noted names x)
distinct_noted names x each =
    elim (cases_Bool (list_any (bytes_eq x) names)) [
      | inl is ↦ subst (IsDistinct bytes_eq) (sym (old_name names x is)) each
      | inr none ↦ subst (IsDistinct bytes_eq) (sym (new_name names x none)) (IsDistinct-push nat_list_eq_equiv names x each none)
    ]

distinct_up : (front names : List (List ℕ)) → IsDistinct bytes_eq (first_uses front) → IsDistinct bytes_eq (first_uses (front ++ names))
distinct_up front [] each = subst (λ (ns : List (List ℕ)). IsDistinct bytes_eq (first_uses ns)) (sym (append-nil front)) each
distinct_up front (name ∷ names) each =
    subst (λ (ns : List (List ℕ)). IsDistinct bytes_eq (first_uses ns)) (append_assoc front (name ∷ []) names)
    (distinct_up (front ++ name ∷ []) names (subst (IsDistinct bytes_eq) (sym (first_uses-push front name)) (distinct_noted (first_uses front) name each)))

distinct_nil : IsDistinct bytes_eq (first_uses [])
unfolding IsDistinct
distinct_nil = tt

-- first uses have each name once
pub distinct_first_uses : (names : List (List ℕ)) → IsDistinct bytes_eq (first_uses names)
distinct_first_uses names = distinct_up [] names distinct_nil

-- and so have they with a new name at their end
pub distinct_push : (names : List (List ℕ)) (x : List ℕ) → IsDistinct bytes_eq names → has names x ≡ false → IsDistinct bytes_eq (names ++ x ∷ [])
distinct_push names x each none = IsDistinct-push nat_list_eq_equiv names x each none

pub has_at : (names : List (List ℕ)) (i : ℕ) → i < length names → has names (name_at names i) ≡ true
has_at names i lt = list_any_at (bytes_eq (name_at names i)) names i [] lt (bytes_eq-refl (name_at names i))

pub number_within : (names : List (List ℕ)) (name : List ℕ) → has names name ≡ true → number_of names name < length names
number_within names name here =
    let n = position_or_len (bytes_eq name) names in
    let known = any-found (bytes_eq name) names [] here in
    omega (arith, number_of-is names name n known, IsNumber-within names name n known)

-- the number of the name with a number
pub number_at : (names : List (List ℕ)) (i : ℕ) → IsDistinct bytes_eq names → i < length names → number_of names (name_at names i) ≡ i
number_at names i each lt =
    let name : List ℕ = name_at names i in
    let j : ℕ = number_of names name in
    let here = has_at names i lt in
    let within : j < length names = number_within names name here in
    let same : name_at names j ≡ name = name_at-number_of names name here in
    elim (cases_eq j i) [
      | inl one ↦ one
      | inr other ↦ elim (cases_lt j i) [
        | inl low ↦
            absurd (false≢true (sym (apart_from_distinct bytes_eq names j i [] each low lt) ∙ (bytes_decides (name_at names j) name).1 same))
        | inr le ↦
            let low : i < j = omega (arith, other, le) in
            absurd (false≢true (sym (apart_from_distinct bytes_eq names i j [] each low within) ∙ (bytes_decides name (name_at names j)).1 (sym same)))
      ]
    ]

filter_step : (b : Bool) (other : List ℕ) (front rest : List (List ℕ)) (name : List ℕ) → (has front name ≡ true → has rest name ≡ true) → has (cond b (other ∷ front) front) name ≡ true
    → (bytes_eq name other || has rest name) ≡ true
filter_step true other front rest name on h =
    elim (cases_Bool (bytes_eq name other)) [
      | inl same ↦ or_left (bytes_eq name other) (has rest name) same
      | inr not_it ↦ or_right (bytes_eq name other) (has rest name) (on (sym (ap (λ b. b || has front name) not_it) ∙ h))
    ]
filter_step false other front rest name on h = or_right (bytes_eq name other) (has rest name) (on h)

has_filter : (p : List ℕ → Bool) (names : List (List ℕ)) (name : List ℕ) → has (filter p names) name ≡ true → has names name ≡ true
has_filter p [] name here = here
has_filter p (other ∷ names) name here = filter_step (p other) other (filter p names) names name (has_filter p names name) here

-- a first use is a use
pub has_use : (names : List (List ℕ)) (name : List ℕ) → has (first_uses names) name ≡ true → has names name ≡ true
has_use [] name here = here
has_use (first ∷ names) name here =
    elim (cases_Bool (bytes_eq name first)) [
      | inl same ↦ or_left (bytes_eq name first) (has names name) same
      | inr other ↦
          let rest = sym (ap (λ b. b || has (filter (λ x. not (bytes_eq first x)) (first_uses names)) name) other) ∙ here in
          or_right (bytes_eq name first) (has names name) (has_use names name (has_filter (λ x. not (bytes_eq first x)) (first_uses names) name rest))
    ]

-- there are no more first uses than names that they are among
pub few_uses : (uses names : List (List ℕ)) → ((name : List ℕ) → has uses name ≡ true → has names name ≡ true) → length (first_uses uses) ≤ length names
few_uses uses names among =
    length-le_from_is_member nat_list_eq_equiv (first_uses uses) names (distinct_first_uses uses) (λ name here. among name (has_use uses name here))

-- The numbers of one table as those of another that has its names.
module _ (A B : List (List ℕ)) where
  abbrev pub translated : ℕ → ℕ
  translated i = cond (nat_lt i (length A)) (number_of B (name_at A i)) (length B + i)

  module _ (each : IsDistinct bytes_eq A) (among : (name : List ℕ) → has A name ≡ true → has B name ≡ true) where
    pub low_is : (i : ℕ) → i < length A → translated i ≡ number_of B (name_at A i)
    low_is i lt = ap (λ b. cond b (number_of B (name_at A i)) (length B + i)) (lt-ltb i (length A) lt)

    high_is : (i : ℕ) → length A ≤ i → translated i ≡ length B + i
    high_is i le = ap (λ b. cond b (number_of B (name_at A i)) (length B + i)) (le-ltb i (length A) le)

    low_within : (i : ℕ) → i < length A → translated i < length B
    low_within i lt = omega (arith, low_is i lt, number_within B (name_at A i) (among (name_at A i) (has_at A i lt)))

    -- different numbers stay different
    pub translated_apart : (i j : ℕ) → translated i ≡ translated j → i ≡ j
    translated_apart i j same =
        elim (cases_lt i (length A)) [
          | inl first ↦ elim (cases_lt j (length A)) [
            | inl second ↦
                let numbers : number_of B (name_at A i) ≡ number_of B (name_at A j) = sym (low_is i first) ∙ same ∙ low_is j second in
                let names : name_at A i ≡ name_at A j =
                sym (name_at-number_of B (name_at A i) (among (name_at A i) (has_at A i first)))
                ∙ ap (name_at B) numbers
                ∙ name_at-number_of B (name_at A j) (among (name_at A j) (has_at A j second)) in
                sym (number_at A i each first) ∙ ap (number_of A) names ∙ number_at A j each second
            | inr high ↦ absurd (omega (arith, same, low_within i first, high_is j high))
          ]
          | inr above ↦ elim (cases_lt j (length A)) [
            | inl second ↦ absurd (omega (arith, same, high_is i above, low_within j second))
            | inr high ↦ omega (arith, same, high_is i above, high_is j high)
          ]
        ]

    -- the number of a name is that of the name
    pub translated_is : (name : List ℕ) → has A name ≡ true → translated (number_of A name) ≡ number_of B name
    translated_is name here =
        low_is (number_of A name) (number_within A name here) ∙ ap (number_of B) (name_at-number_of A name here)
