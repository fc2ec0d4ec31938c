-- Races that a text names, by the numbers of their locations.
use Rattle.std.proofs.Common.{◌≡◌, ◌≤◌, ℕ, nat_eq, min, max, ◌<◌, ◌&&◌, Bool, true, false, ltb, List, [], ◌∷◌, drop, length, Contains, Vec, get_or, sym, ap, ◌∙◌, refl, subst, arith, lt-ltb, ltb-true, inl, inr}
use Rattle.std.specs.List.{list_any}
use Rattle.std.specs.Prelude.{◌⊎◌}
use Rattle.std.specs.Cmp.Lexicographic.{pointwise, bytes_decides}
use Rattle.std.specs.declared.alloc.Global.{Global}
use Rattle.std.proofs.lemmas.Bool.{and_from, and_parts, cases_Bool, cases_lt}
use Rattle.std.proofs.lemmas.List.{drop_all}
use Rattle.std.proofs.lemmas.List.Sums.{passes_at_first}
use Rattle.std.proofs.lemmas.Map.Views.{list_any-from_Contains}
use Rattle.indexmap.proofs.CallerLemmas.{Contains-list_any}
use Rattle.race_groups.specs.Rows.{same_places}
use Rattle.race_groups.proofs.RowLemmas.{same_places-equiv, same_places_are}
use Rattle.race_parts.specs.declared.cells.Cell.{Cell}
use Rattle.race_triage.specs.Known.{AreKnown, NamesRace}
use Rattle.race_triage.specs.Places.{AreKept, IsSpot}
use Rattle.calls.specs.triage.LeavingListed.{AreListed, HasPlaces, HaveAllPlaces, IsRight, in_pairs, is_numbered, number_in}

-- whether a key is the text
abbrev pub is_text : List ℕ → Vec ℕ Global → Bool
is_text name v = pointwise nat_eq name v.items

-- what stands at one place is one text
one_text : (keys : List (Vec ℕ Global)) (s t : List ℕ) (n : ℕ) → IsSpot keys s n → IsSpot keys t n → s ≡ t
one_text [] s t n is also = absurd (omega (arith, is.1))
one_text (k ∷ ks) s t n is also =
    let first = passes_at_first (is_text s) (k ∷ ks) k (omega (arith, is.0, is.1)) in
    let second = passes_at_first (is_text t) (k ∷ ks) k (omega (arith, also.0, also.1)) in
    let at : Vec ℕ Global = get_or (k ∷ ks) n k in
    let one : s ≡ at.items = (bytes_decides s at.items).0 (ap (λ i. is_text s (get_or (k ∷ ks) i k)) (sym is.0) ∙ first) in
    let other : t ≡ at.items = (bytes_decides t at.items).0 (ap (λ i. is_text t (get_or (k ∷ ks) i k)) (sym also.0) ∙ second) in
    one ∙ sym other

-- a location without a number is none of these
pub is_numbered-none : (keys : List (Vec ℕ Global)) (name : List ℕ) → ((n : ℕ) → ¬ IsSpot keys name n) → is_numbered keys name ≡ false
is_numbered-none keys name none =
    elim (cases_Bool (is_numbered keys name)) [
      | inl so ↦ absurd (none (number_in keys name) (refl, ltb-true (number_in keys name) (length keys) so))
      | inr not_so ↦ not_so
    ]

-- and one with a number is
pub is_numbered-some : (keys : List (Vec ℕ Global)) (name : List ℕ) (n : ℕ) → IsSpot keys name n → is_numbered keys name ≡ true
is_numbered-some keys name n is = lt-ltb (number_in keys name) (length keys) (omega (arith, is.0, is.1))

-- a set that keeps the numbers of another has those of its cells
pub HasPlaces-kept : (old new : List (Vec ℕ Global)) (c : Cell) → AreKept old new → HasPlaces old c → HasPlaces new c
HasPlaces-kept old new c kept has = ((has.0.0, kept c.first.now has.0.0 has.0.1), (has.1.0, kept c.second.now has.1.0 has.1.1))

-- a cell more, and no more
pub all-more : (ks : List (Vec ℕ Global)) (c : Cell) (cs left : List Cell) → left ≡ c ∷ cs → HasPlaces ks c → HaveAllPlaces ks cs → HaveAllPlaces ks left
all-more ks c cs left cut has rest = subst (HaveAllPlaces ks) (sym cut) (has, rest)

pub all-end : (ks : List (Vec ℕ Global)) (cs : List Cell) (at : ℕ) → length cs ≤ at → HaveAllPlaces ks (drop at cs)
all-end ks cs at past = subst (HaveAllPlaces ks) (sym (drop_all at cs past)) tt

-- two pairs of numbers with one lesser and one greater are one, in one order or the other
same_two : (a b m n : ℕ) → min a b ≡ min m n → max a b ≡ max m n → ((a ≡ m) × (b ≡ n)) ⊎ ((a ≡ n) × (b ≡ m))
same_two a b m n lesser greater =
    elim (cases_lt n m) [
      | inl turned ↦ elim (cases_lt b a) [ inl other ↦ inl (omega arith, omega arith) | inr one ↦ inr (omega arith, omega arith) ]
      | inr rising ↦ elim (cases_lt b a) [ inl other ↦ inr (omega arith, omega arith) | inr one ↦ inl (omega arith, omega arith) ]
    ]

module _ (keys : List (Vec ℕ Global)) (text : List ℕ) (pairs : List (ℕ × ℕ)) (are : AreKnown keys text pairs) where
  names_same : (x y s t : List ℕ) (a b m n : ℕ) → IsSpot keys x a → IsSpot keys y b → IsSpot keys s m → IsSpot keys t n → (a ≡ m) × (b ≡ n) → NamesRace text s t → NamesRace text x y
  names_same x y s t a b m n x_at y_at s_at t_at are_one names =
      let first : s ≡ x = one_text keys s x m s_at (subst (λ k. IsSpot keys x k) are_one.0 x_at) in
      let second : t ≡ y = one_text keys t y n t_at (subst (λ k. IsSpot keys y k) are_one.1 y_at) in
      subst (λ l. NamesRace text l y) first (subst (λ l. NamesRace text s l) second names)

  named : (x y : List ℕ) (a b : ℕ) → IsSpot keys x a → IsSpot keys y b → Contains pairs (min a b, max a b) → NamesRace text x y ⊎ NamesRace text y x
  named x y a b x_at y_at there =
      let h = (are (min a b) (max a b)).0 there in
      let told = h.3 in
      elim (same_two a b told.0 told.1 told.4 told.5) [
        | inl same ↦ inl (names_same x y h.0 h.1 a b told.0 told.1 x_at y_at told.2 told.3 same h.2)
        | inr turned ↦ inr (names_same y x h.0 h.1 b a told.0 told.1 y_at x_at told.2 told.3 (turned.1, turned.0) h.2)
      ]

  noted : (x y : List ℕ) (a b : ℕ) → IsSpot keys x a → IsSpot keys y b → NamesRace text x y ⊎ NamesRace text y x → Contains pairs (min a b, max a b)
  noted x y a b x_at y_at (inl names) = (are (min a b) (max a b)).1 (x, y, names, (a, b, x_at, y_at, refl, refl))
  noted x y a b x_at y_at (inr names) = (are (min a b) (max a b)).1 (y, x, names, (b, a, y_at, x_at, omega arith, omega arith))

  -- where both locations of a cell have numbers, the pairs have them exactly if the text names the locations
  right_of : (c : Cell) → HasPlaces keys c → IsRight text (in_pairs keys pairs) c
  right_of c has =
      let a : ℕ = number_in keys c.first.now in
      let b : ℕ = number_in keys c.second.now in
      let x_at : IsSpot keys c.first.now a = subst (λ k. IsSpot keys c.first.now k) (sym has.0.1.0) has.0.1 in
      let y_at : IsSpot keys c.second.now b = subst (λ k. IsSpot keys c.second.now k) (sym has.1.1.0) has.1.1 in
      record {
        named = λ is.
            named c.first.now c.second.now a b x_at y_at
            (Contains-list_any same_places same_places_are pairs (min a b, max a b) (and_parts (ltb a (length keys) && ltb b (length keys)) (list_any (same_places (min a b, max a b)) pairs) is).1);
        all_named = λ names.
            and_from (ltb a (length keys) && ltb b (length keys)) (list_any (same_places (min a b, max a b)) pairs)
            (and_from (ltb a (length keys)) (ltb b (length keys)) (lt-ltb a (length keys) x_at.1) (lt-ltb b (length keys) y_at.1))
            (list_any-from_Contains same_places-equiv (min a b, max a b) pairs (noted c.first.now c.second.now a b x_at y_at names));
      }

  pub right_all : (cs : List Cell) → HaveAllPlaces keys cs → AreListed text (in_pairs keys pairs) cs
  right_all [] all = tt
  right_all (c ∷ cs) all = (right_of c all.0, right_all cs all.1)
