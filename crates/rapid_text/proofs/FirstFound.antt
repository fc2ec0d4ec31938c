-- What a function gives at the places from some place on: nothing, or a first.
use Rattle.std.proofs.Common.{◌≡◌, ℕ, zero, suc, ◌+◌, ◌<◌, ◌≤◌, ◌⊎◌, List, [], ◌∷◌, Option, Some, None, slice_get, refl, sym, ap, ◌∙◌, arith, inl, inr, le_refl}
use Rattle.std.specs.Prelude.{filter_map}
use Rattle.std.specs.List.{range_with_len, cons_option}
use Rattle.std.proofs.lemmas.Bool.{cases_eq}
use Rattle.std.proofs.lemmas.Option.{none-some}

module _ {A : Type 0} where
  no_head : (o : Option A) (rest : List A) → cons_option o rest ≡ [] → (o ≡ None) × (rest ≡ [])
  no_head None rest is = (refl, is)
  no_head (Some x) rest is = absurd (cc)

  head_is : (o : Option A) (rest : List A) (x : A) → slice_get (cons_option o rest) 0 ≡ Some x
      → (o ≡ Some x) ⊎ ((o ≡ None) × (slice_get rest 0 ≡ Some x))
  head_is None rest x is = inr (refl, is)
  head_is (Some y) rest x is = inl is

  -- a list with no first element
  pub nil-from_no_first : (xs : List A) → slice_get xs 0 ≡ None → xs ≡ []
  nil-from_no_first [] is = refl
  nil-from_no_first (x ∷ xs) is = absurd (none-some x (sym is))

  module _ (f : ℕ → Option A) where
    -- x is given at place k, and nothing from place a up to it
    pub record IsFirstFound (a n : ℕ) (x : A) : Type 0 where
      pub place : ℕ
      pub low : a ≤ place
      pub high : place < a + n
      pub here : f place ≡ Some x
      pub before : (j : ℕ) → a ≤ j → j < place → f j ≡ None

    -- where it gives nothing at the n places from a on
    pub nothing_found : (a n : ℕ) → ((k : ℕ) → a ≤ k → k < a + n → f k ≡ None)
        → filter_map f (range_with_len a n) ≡ []
    nothing_found a zero none = refl
    nothing_found a (suc n) none =
        ap (λ o. cons_option o (filter_map f (range_with_len (a + 1) n))) (none a (le_refl a) (omega arith))
        ∙ nothing_found (a + 1) n (λ k low high. none k (omega arith) (omega arith))

    pub none-from_nothing : (a n : ℕ) → filter_map f (range_with_len a n) ≡ []
        → (k : ℕ) → a ≤ k → k < a + n → f k ≡ None
    none-from_nothing a zero is k low high = absurd (omega arith)
    none-from_nothing a (suc n) is k low high =
        let parts = no_head (f a) (filter_map f (range_with_len (a + 1) n)) is in
        elim (cases_eq k a) [
          | inl same ↦ ap f same ∙ parts.0
          | inr other ↦ none-from_nothing (a + 1) n parts.1 k (omega arith) (omega arith)
        ]

    -- the first that it gives
    pub first_found : (a n : ℕ) (x : A) → IsFirstFound a n x → slice_get (filter_map f (range_with_len a n)) 0 ≡ Some x
    first_found a zero x is = absurd (omega (arith, is.low, is.high))
    first_found a (suc n) x is =
        elim (cases_eq is.place a) [
          | inl same ↦ ap (λ o. slice_get (cons_option o (filter_map f (range_with_len (a + 1) n))) 0) (ap f (sym same) ∙ is.here)
          | inr other ↦
              ap (λ o. slice_get (cons_option o (filter_map f (range_with_len (a + 1) n))) 0) (is.before a (le_refl a) (omega (arith, is.low)))
              ∙ first_found (a + 1) n x (record {
                place = is.place;
                low = omega (arith, is.low);
                high = omega (arith, is.high);
                here = is.here;
                before = λ j low less. is.before j (omega arith) less;
              })
        ]

    pub is_first_found : (a n : ℕ) (x : A) → slice_get (filter_map f (range_with_len a n)) 0 ≡ Some x → IsFirstFound a n x
    is_first_found a zero x is = absurd (none-some x is)
    is_first_found a (suc n) x is =
        elim (head_is (f a) (filter_map f (range_with_len (a + 1) n)) x is) [
          | inl here ↦ record {
            place = a;
            low = le_refl a;
            high = omega arith;
            here = here;
            before = λ j low less. absurd (omega arith);
          }
          | inr later ↦
              let found = is_first_found (a + 1) n x later.1 in
              record {
                place = found.place;
                low = omega (arith, found.low);
                high = omega (arith, found.high);
                here = found.here;
                before = λ j low less. elim (cases_eq j a) [
                  | inl same ↦ ap f same ∙ later.0
                  | inr other ↦ found.before j (omega arith) less
                ];
              }
        ]
