-- The number of a name, and what one name more leaves as it was.
use Rattle.std.proofs.Common.{◌≡◌, ℕ, ◌<◌, ◌≤◌, ◌+◌, true, false, List, [], ◌∷◌, ◌++◌, map, length, refl, sym, ap, ◌∙◌, arith, inl, inr}
use Rattle.std.specs.Prelude.{Some, None, position, bytes_eq, Vec, unwrap_or}
use Rattle.std.specs.List.{position_or_len, list_any}
use Rattle.std.specs.Cmp.Lexicographic.{bytes_decides}
use Rattle.indexmap.specs.IndexSet.{insert_key}
use Rattle.std.proofs.lemmas.Bool.{cases_Bool, cond_below, eq-eqb, ne_eqb}
use Rattle.std.proofs.lemmas.List.{length_push, map_push}
use Rattle.std.proofs.lemmas.List.Folds.{position_or_len_push}
use Rattle.std.proofs.lemmas.List.Quantifiers.{position-Some}
use Rattle.rapid_text.specs.Growth.{with_name, IsNumber}
use Rattle.rapid_text.specs.Reading.{number_of}
use Rattle.rapid_text.proofs.Positions.{any-found, any-position, none-position, found-any, found-place, list_any-map}

same_name : (name : List ℕ) → bytes_eq name name ≡ true
same_name name = (bytes_decides name name).1 refl

pub old_name : (names : List (List ℕ)) (name : List ℕ) → list_any (bytes_eq name) names ≡ true → with_name names name ≡ names
old_name names name is = rw is refl

-- a new name goes last
pub new_name : (names : List (List ℕ)) (name : List ℕ) → list_any (bytes_eq name) names ≡ false → with_name names name ≡ names ++ name ∷ []
new_name names name none = rw none refl

-- the name that was noted or found has its first place
pub number-with_name : (names : List (List ℕ)) (name : List ℕ) → IsNumber (with_name names name) name (position_or_len (bytes_eq name) names)
number-with_name names name = elim (cases_Bool (list_any (bytes_eq name) names)) [
  | inl is ↦ ap (position (bytes_eq name)) (old_name names name is) ∙ any-found (bytes_eq name) names [] is
  | inr none ↦
      let past : position_or_len (bytes_eq name) names ≡ length names = none-position (bytes_eq name) names [] none in
      let at : position_or_len (bytes_eq name) (names ++ name ∷ []) ≡ length names =
      position_or_len_push (bytes_eq name) names name ∙ rw (past, eq-eqb (length names) (length names) refl, same_name name) (omega arith) in
      let lt : position_or_len (bytes_eq name) (names ++ name ∷ []) < length (names ++ name ∷ []) = omega (arith, at, length_push names name) in
      let found : position (bytes_eq name) (names ++ name ∷ []) ≡ Some (position_or_len (bytes_eq name) names) =
      sym (cond_below (position_or_len (bytes_eq name) (names ++ name ∷ [])) (length (names ++ name ∷ [])) (Some (position_or_len (bytes_eq name) (names ++ name ∷ []))) None lt) ∙ ap Some (at ∙ sym past) in
      ap (position (bytes_eq name)) (new_name names name none) ∙ found
]

-- a name that is there is not noted again
pub with_name-found : (names : List (List ℕ)) (name : List ℕ) (n : ℕ) → IsNumber names name n → with_name names name ≡ names
with_name-found names name n e = old_name names name (found-any (bytes_eq name) names [] n e)

-- a name more leaves the numbers as they were
pub IsNumber-with_name : (names : List (List ℕ)) (name other : List ℕ) (n : ℕ) → IsNumber names name n → IsNumber (with_name names other) name n
IsNumber-with_name names name other n e = elim (cases_Bool (list_any (bytes_eq other) names)) [
  | inl is ↦ ap (position (bytes_eq name)) (old_name names other is) ∙ e
  | inr none ↦
      let at : position_or_len (bytes_eq name) names ≡ n = found-place (bytes_eq name) names [] n e in
      let lt : position_or_len (bytes_eq name) names < length names = any-position (bytes_eq name) names [] (found-any (bytes_eq name) names [] n e) in
      let more : position_or_len (bytes_eq name) (names ++ other ∷ []) ≡ n =
      position_or_len_push (bytes_eq name) names other ∙ rw (ne_eqb (position_or_len (bytes_eq name) names) (length names) (λ same. omega (arith, lt, same))) at in
      let within : position_or_len (bytes_eq name) (names ++ other ∷ []) < length (names ++ other ∷ []) = omega (arith, more, at, lt, length_push names other) in
      ap (position (bytes_eq name)) (new_name names other none)
      ∙ sym (cond_below (position_or_len (bytes_eq name) (names ++ other ∷ [])) (length (names ++ other ∷ [])) (Some (position_or_len (bytes_eq name) (names ++ other ∷ []))) None within)
      ∙ ap Some more
]

-- what a name's number is
pub number_of-is : (names : List (List ℕ)) (name : List ℕ) (n : ℕ) → IsNumber names name n → number_of names name ≡ n
number_of-is names name n e = ap (λ o. unwrap_or o 0) e

-- a number is below the count of names
pub IsNumber-within : (names : List (List ℕ)) (name : List ℕ) (n : ℕ) → IsNumber names name n → n < length names
IsNumber-within names name n e = (position-Some (bytes_eq name) names n [] e).0

-- the number of a name that was noted is below the count
pub number_of-within : (names : List (List ℕ)) (name : List ℕ) → number_of (with_name names name) name < length (with_name names name)
number_of-within names name =
    let n = position_or_len (bytes_eq name) names in
    let known : IsNumber (with_name names name) name n = number-with_name names name in
    omega (arith, number_of-is (with_name names name) name n known, IsNumber-within (with_name names name) name n known)

-- a name more makes a table longer by one at most
pub length-with_name : (names : List (List ℕ)) (name : List ℕ) → (length names ≤ length (with_name names name)) × (length (with_name names name) ≤ length names + 1)
length-with_name names name = elim (cases_Bool (list_any (bytes_eq name) names)) [
  | inl is ↦ let same = ap length (old_name names name is) in (omega (arith, same), omega (arith, same))
  | inr none ↦
      let same : length (with_name names name) ≡ length names + 1 = ap length (new_name names name none) ∙ length_push names name in
      (omega (arith, same), omega (arith, same))
]

module _ {A : Type 0} where
  abbrev pub items : Vec ℕ A → List ℕ
  items v = v.items

  -- a table's own insertion
  pub names-insert_key : (keys : List (Vec ℕ A)) (key : Vec ℕ A) → map (λ (v : Vec ℕ A). v.items) (insert_key (λ (v w : Vec ℕ A). bytes_eq v.items w.items) keys key) ≡ with_name (map (λ (v : Vec ℕ A). v.items) keys) key.items
  names-insert_key keys key =
      let any = list_any-map items (bytes_eq key.items) keys in
      elim (cases_Bool (list_any (bytes_eq key.items) (map items keys))) [
        | inl is ↦ rw (is, sym any ∙ is) refl
        | inr none ↦ rw (none, sym any ∙ none) (map_push items keys key)
      ]
