-- Lists that rise are given by what stands in them.
use Rattle.std.proofs.Common.{◌≡◌, zero, suc, ◌⊎◌, Bool, true, List, [], ◌∷◌, All, AllPairs, Contains, filter, refl, sym, ap, ◌∙◌, subst, arith, inl, inr}
use Rattle.std.proofs.lemmas.Bool.{cases_Bool, cond-true, cond-false}
use Rattle.std.proofs.lemmas.List.Elements.{All-cons, All-head, All-nil, All-tail}
use Rattle.race_groups.proofs.BuildLemmas.{length-cons}
use Rattle.race_triage.proofs.OnceLemmas.{pairs_head, pairs_tail, stands_here}

-- what stands in a list is its first, or stands behind that
pub first_or_behind : {X : Type 0} (x y : X) (xs : List X) → Contains (x ∷ xs) y → (x ≡ y) ⊎ Contains xs y
first_or_behind x y xs (zero, lt, at) = inl at
first_or_behind x y xs (suc k, lt, at) = inr (k, omega (arith, lt, length-cons x xs), at)

pub stands_behind : {X : Type 0} (x y : X) (xs : List X) → Contains xs y → Contains (x ∷ xs) y
stands_behind x y xs (k, lt, at) = (suc k, omega (arith, lt, length-cons x xs), at)

nothing_there : {X : Type 0} (y : X) → Contains [] y → ⊥
nothing_there y (k, lt, at) = omega (arith, lt)

-- what the first is related to
first_before : {X : Type 0} (R : X → X → Type 0) (x y : X) (xs : List X) → AllPairs R (x ∷ xs) → Contains xs y → R x y
first_before R x y xs pairs (k, lt, at) = subst (R x) at (pairs_head R x xs pairs k y lt)

-- Two lists that rise by a relation that nothing has to itself, nor both ways, are one where the same elements stand in them.
module _ {X : Type 0} (R : X → X → Type 0) (apart : (x y : X) → R x y → R y x → ⊥) where
  rest_inside : (x : X) (xs ys : List X) → AllPairs R (x ∷ xs) → ((z : X) → Contains (x ∷ xs) z → Contains (x ∷ ys) z) → (z : X) → Contains xs z → Contains ys z
  rest_inside x xs ys rising inside z there = elim (first_or_behind x z ys (inside z (stands_behind x z xs there))) [
    | inl same ↦
        let itself : R x x = subst (R x) (sym same) (first_before R x z xs rising there) in
        absurd (apart x x itself itself)
    | inr behind ↦ behind
  ]

  pub one_rising : (xs ys : List X) → AllPairs R xs → AllPairs R ys → ((z : X) → Contains xs z → Contains ys z) → ((z : X) → Contains ys z → Contains xs z) → xs ≡ ys
  one_rising [] [] one other inside back = refl
  one_rising [] (y ∷ ys) one other inside back = absurd (nothing_there y (back y (stands_here y y ys refl)))
  one_rising (x ∷ xs) [] one other inside back = absurd (nothing_there x (inside x (stands_here x x xs refl)))
  one_rising (x ∷ xs) (y ∷ ys) one other inside back =
      let same : x ≡ y =
      elim (first_or_behind y x ys (inside x (stands_here x x xs refl))) [
        | inl is ↦ sym is
        | inr later ↦ elim (first_or_behind x y xs (back y (stands_here y y ys refl))) [
          | inl is ↦ is
          | inr also ↦ absurd (apart x y (first_before R x y xs one also) (first_before R y x ys other later))
        ]
      ]
      in
      let moved : AllPairs R (x ∷ ys) = subst (λ (w : X). AllPairs R (w ∷ ys)) (sym same) other in
      let into : (z : X) → Contains (x ∷ xs) z → Contains (x ∷ ys) z = λ z there. subst (λ (w : X). Contains (w ∷ ys) z) (sym same) (inside z there) in
      let from : (z : X) → Contains (x ∷ ys) z → Contains (x ∷ xs) z = λ z there. back z (subst (λ (w : X). Contains (w ∷ ys) z) same there) in
      ap (λ zs. x ∷ zs)
      (one_rising xs ys (pairs_tail R x xs one) (pairs_tail R y ys other) (rest_inside x xs ys one into) (rest_inside x ys xs moved from))
      ∙ ap (λ z. z ∷ ys) same

-- of all one or the other holds: one of some, or the other of all
pub some_or_all : {X : Type 0} (P Q : X → Type 0) (xs : List X) → All (λ (x : X). P x ⊎ Q x) xs → ((x : X) × Contains xs x × P x) ⊎ All Q xs
some_or_all P Q [] all = inr (All-nil Q)
some_or_all P Q (x ∷ xs) all = elim (All-head (λ z. P z ⊎ Q z) x xs all) [
  | inl is ↦ inl (x, stands_here x x xs refl, is)
  | inr other ↦ elim (some_or_all P Q xs (All-tail (λ z. P z ⊎ Q z) x xs all)) [
    | inl some ↦ inl (some.0, stands_behind x some.0 xs some.1, some.2)
    | inr rest ↦ inr (All-cons Q x xs other rest)
  ]
]

-- what a filter keeps stands in the list
pub from_filter : {X : Type 0} (p : X → Bool) (xs : List X) (y : X) → Contains (filter p xs) y → Contains xs y
from_filter p [] y there = there
from_filter {X} p (x ∷ xs) y there = elim (cases_Bool (p x)) [
  | inl kept ↦
      let at : Contains (x ∷ filter p xs) y = subst (λ (l : List X). Contains l y) (cond-true (p x) (x ∷ filter p xs) (filter p xs) kept) there in
      elim (first_or_behind x y (filter p xs) at) [
        | inl same ↦ stands_here x y xs same
        | inr rest ↦ stands_behind x y xs (from_filter p xs y rest)
      ]
  | inr dropped ↦
      let at : Contains (filter p xs) y = subst (λ (l : List X). Contains l y) (cond-false (p x) (x ∷ filter p xs) (filter p xs) dropped) there in
      stands_behind x y xs (from_filter p xs y at)
]

pub into_filter : {X : Type 0} (p : X → Bool) (xs : List X) (y : X) → Contains xs y → p y ≡ true → Contains (filter p xs) y
into_filter p [] y there so = there
into_filter {X} p (x ∷ xs) y there so = elim (first_or_behind x y xs there) [
  | inl same ↦
      subst (λ (l : List X). Contains l y) (sym (cond-true (p x) (x ∷ filter p xs) (filter p xs) (ap p same ∙ so))) (stands_here x y (filter p xs) same)
  | inr behind ↦
      let rest = into_filter p xs y behind so in
      elim (cases_Bool (p x)) [
        | inl kept ↦ subst (λ (l : List X). Contains l y) (sym (cond-true (p x) (x ∷ filter p xs) (filter p xs) kept)) (stands_behind x y (filter p xs) rest)
        | inr dropped ↦ subst (λ (l : List X). Contains l y) (sym (cond-false (p x) (x ∷ filter p xs) (filter p xs) dropped)) rest
      ]
]
