-- Names by first use, as one use more comes.
use Rattle.std.proofs.Common.{◌≡◌, ℕ, Bool, true, false, List, [], ◌∷◌, ◌++◌, refl, sym, ap, ◌∙◌, inl, inr}
use Rattle.std.specs.Prelude.{not, ◌||◌, bytes_eq, filter}
use Rattle.std.specs.List.{position_or_len, list_any}
use Rattle.std.specs.Cmp.Lexicographic.{bytes_decides}
use Rattle.std.proofs.lemmas.Bool.{cases_Bool, false≢true}
use Rattle.std.proofs.lemmas.List.{append-nil}
use Rattle.std.proofs.lemmas.List.Elements.{filter-append}
use Rattle.rapid_text.specs.Growth.{with_name, IsNumber}
use Rattle.rapid_text.specs.Reading.{first_uses, number_of}
use Rattle.rapid_text.proofs.Positions.{any-found, found-any, not_true}
use Rattle.rapid_text.proofs.Numbering.{IsNumber-with_name, number_of-is, number-with_name, new_name, old_name}

-- whether the other name differs
abbrev differs : List ℕ → List ℕ → Bool
differs name other = not (bytes_eq name other)

-- names that differ from one keep another
any-filter : (name x : List ℕ) (names : List (List ℕ)) → bytes_eq x name ≡ false → list_any (bytes_eq x) (filter (differs name) names) ≡ list_any (bytes_eq x) names
any-filter name x [] apart = refl
any-filter name x (y ∷ names) apart = elim (cases_Bool (bytes_eq name y)) [
  | inl same ↦
      let away : bytes_eq x y ≡ false = ap (bytes_eq x) (sym ((bytes_decides name y).0 same)) ∙ apart in
      rw (same, away) (any-filter name x names apart)
  | inr other ↦ rw other (ap (λ b. bytes_eq x y || b) (any-filter name x names apart))
]

filter-last_same : (name : List ℕ) (names : List (List ℕ)) (x : List ℕ) → bytes_eq name x ≡ true → filter (differs name) (names ++ x ∷ []) ≡ filter (differs name) names
filter-last_same name names x same = filter-append (differs name) names (x ∷ []) ∙ rw same (append-nil (filter (differs name) names))

filter-last_other : (name : List ℕ) (names : List (List ℕ)) (x : List ℕ) → bytes_eq name x ≡ false → filter (differs name) (names ++ x ∷ []) ≡ filter (differs name) names ++ x ∷ []
filter-last_other name names x other = filter-append (differs name) names (x ∷ []) ∙ rw other refl

-- leaving a name out and noting another
filter-with_name_same : (name : List ℕ) (names : List (List ℕ)) (x : List ℕ) → bytes_eq name x ≡ true → filter (differs name) (with_name names x) ≡ filter (differs name) names
filter-with_name_same name names x same = elim (cases_Bool (list_any (bytes_eq x) names)) [
  | inl is ↦ ap (filter (differs name)) (old_name names x is)
  | inr none ↦ ap (filter (differs name)) (new_name names x none) ∙ filter-last_same name names x same
]

filter-with_name_other : (name : List ℕ) (names : List (List ℕ)) (x : List ℕ) → bytes_eq name x ≡ false → bytes_eq x name ≡ false → filter (differs name) (with_name names x) ≡ with_name (filter (differs name) names) x
filter-with_name_other name names x other apart = elim (cases_Bool (list_any (bytes_eq x) names)) [
  | inl is ↦ ap (filter (differs name)) (old_name names x is) ∙ sym (old_name (filter (differs name) names) x (any-filter name x names apart ∙ is))
  | inr none ↦
      ap (filter (differs name)) (new_name names x none) ∙ filter-last_other name names x other
      ∙ sym (new_name (filter (differs name) names) x (any-filter name x names apart ∙ none))
]

-- a name before the others, as one more is noted
cons-with_name_same : (name : List ℕ) (names : List (List ℕ)) (x : List ℕ) → bytes_eq x name ≡ true → with_name (name ∷ names) x ≡ name ∷ names
cons-with_name_same name names x same = old_name (name ∷ names) x (rw same refl)

cons-with_name_other : (name : List ℕ) (names : List (List ℕ)) (x : List ℕ) → bytes_eq x name ≡ false → with_name (name ∷ names) x ≡ name ∷ with_name names x
cons-with_name_other name names x apart = elim (cases_Bool (list_any (bytes_eq x) names)) [
  | inl is ↦ old_name (name ∷ names) x (rw (apart, is) refl) ∙ ap (λ ns. name ∷ ns) (sym (old_name names x is))
  | inr none ↦ new_name (name ∷ names) x (rw (apart, none) refl) ∙ ap (λ ns. name ∷ ns) (sym (new_name names x none))
]

-- equality of names goes both ways
flipped : (x y : List ℕ) (b : Bool) → bytes_eq x y ≡ b → bytes_eq y x ≡ b
flipped x y true e = (bytes_decides y x).1 (sym ((bytes_decides x y).0 e))
flipped x y false e = not_true (bytes_eq y x) (λ is. false≢true (sym e ∙ (bytes_decides x y).1 (sym ((bytes_decides y x).0 is))))

-- one use more at the end
pub first_uses-push : (names : List (List ℕ)) (x : List ℕ) → first_uses (names ++ x ∷ []) ≡ with_name (first_uses names) x
first_uses-push [] x = refl
first_uses-push (name ∷ names) x =
    let rest : first_uses (names ++ x ∷ []) ≡ with_name (first_uses names) x = first_uses-push names x in
    let start : first_uses ((name ∷ names) ++ x ∷ []) ≡ name ∷ filter (differs name) (with_name (first_uses names) x) = ap (λ ns. name ∷ filter (differs name) ns) rest in
    elim (cases_Bool (bytes_eq name x)) [
      | inl same ↦
          start ∙ ap (λ ns. name ∷ ns) (filter-with_name_same name (first_uses names) x same)
          ∙ sym (cons-with_name_same name (filter (differs name) (first_uses names)) x (flipped name x true same))
      | inr other ↦
          start ∙ ap (λ ns. name ∷ ns) (filter-with_name_other name (first_uses names) x other (flipped name x false other))
          ∙ sym (cons-with_name_other name (filter (differs name) (first_uses names)) x (flipped name x false other))
    ]

-- every name that is there stays, and keeps its number
pub record KeepsTable (names after : List (List ℕ)) : Type 0 where
  pub number : (x : List ℕ) → list_any (bytes_eq x) names ≡ true → number_of after x ≡ number_of names x
  pub stays : (x : List ℕ) → list_any (bytes_eq x) names ≡ true → list_any (bytes_eq x) after ≡ true

pub KeepsTable-refl : (names : List (List ℕ)) → KeepsTable names names
KeepsTable-refl names = record { number = λ x h. refl; stays = λ x h. h }

pub KeepsTable-trans : (a b c : List (List ℕ)) → KeepsTable a b → KeepsTable b c → KeepsTable a c
KeepsTable-trans a b c f g = record { number = λ x h. g.number x (f.stays x h) ∙ f.number x h; stays = λ x h. g.stays x (f.stays x h) }

pub KeepsTable-with_name : (names : List (List ℕ)) (name : List ℕ) → KeepsTable names (with_name names name)
KeepsTable-with_name names name = record {
  number = λ x h.
      let n = position_or_len (bytes_eq x) names in
      let known : IsNumber names x n = any-found (bytes_eq x) names [] h in
      number_of-is (with_name names name) x n (IsNumber-with_name names x name n known) ∙ sym (number_of-is names x n known);
  stays = λ x h.
      let n = position_or_len (bytes_eq x) names in
      found-any (bytes_eq x) (with_name names name) [] n (IsNumber-with_name names x name n (any-found (bytes_eq x) names [] h));
}

-- the name that was noted is there
pub with_name-noted : (names : List (List ℕ)) (name : List ℕ) → list_any (bytes_eq name) (with_name names name) ≡ true
with_name-noted names name = found-any (bytes_eq name) (with_name names name) [] (position_or_len (bytes_eq name) names) (number-with_name names name)
