-- The first section that is open before an event.
use Rattle.std.proofs.Common.{◌≡◌, ◌≢◌, ℕ, ◌+◌, ◌<◌, ◌≤◌, List, length, get_or, slice_get, Option, Some, None, refl, sym, ap, ◌∙◌, subst, arith, inl, inr}
use Rattle.std.proofs.lemmas.Bool.{cases_lt}
use Rattle.std.proofs.lemmas.Option.{same_Some, slice_get-get_or, slice_get_within}
use Rattle.rapid_text.specs.declared.event.Event.{Event}
use Rattle.event_index.specs.Events.{thread_at}
use Rattle.event_index.specs.Least.{IsLeastOf}
use Rattle.event_index.specs.Lookups.{events_of, place_of}
use Rattle.event_index.proofs.CallerLemmas.{IsLeastOf-unique, place_of-events_of}
use Rattle.shb_clocks.proofs.PlaceLemmas.{at_place, le-from_place_of, place_of-later, place_of-le_from}
use Rattle.witness_search.specs.trace_order.Orders.{HasNoFront, IsFront, IsOpenSection, or_itself}

-- an event has one front
pub IsFront-unique : (T : List Event) (e h k : ℕ) → IsFront T e h → IsFront T e k → h ≡ k
IsFront-unique T e h k (o, least, is) (p, other, also) =
    is ∙ ap (or_itself e) (IsLeastOf-unique (IsOpenSection T e) o p least other) ∙ sym also

pub some_front : (T : List Event) (a b h : ℕ) → IsFront T a h → h ≢ a → ¬ HasNoFront T a b
some_front T a b h front other none = other (IsFront-unique T a h a front none.0)

pub some_second : (T : List Event) (a b h : ℕ) → IsFront T b h → h ≢ b → ¬ HasNoFront T a b
some_second T a b h front other none = other (IsFront-unique T b h b front none.1)

-- none of the first k events begins an open section
abbrev pub HasNoneUpTo : List Event → ℕ → List ℕ → ℕ → Type 0
HasNoneUpTo T e xs k = (j : ℕ) → j < k → ¬ IsOpenSection T e (get_or xs j 0)

module _ (T : List Event) (e t : ℕ) (of : thread_at T e ≡ Some t) (xs : List ℕ) (are : xs ≡ events_of T t) where
  low : place_of T e < length xs
  low = subst (λ (ys : List ℕ). place_of T e < length ys) (sym are) (slice_get_within (events_of T t) (place_of T e) e (at_place T e t of))

  pub place_low : (k : ℕ) → k < place_of T e → k < length xs
  place_low k early = omega (arith, low, early)

  -- the event at a place
  stands : (k : ℕ) → k < length xs → (thread_at T (get_or xs k 0) ≡ Some t) × (place_of T (get_or xs k 0) ≡ k)
  stands k within =
      let there = place_of-events_of T t k (get_or xs k 0) (subst (λ (ys : List ℕ). slice_get ys k ≡ Some (get_or xs k 0)) are (slice_get-get_or xs k 0 within)) in
      (there.1, there.2)

  pub same_thread : (k : ℕ) → k < place_of T e → thread_at T (get_or xs k 0) ≡ thread_at T e
  same_thread k early = (stands k (place_low k early)).0 ∙ sym of

  pub place_early : (k : ℕ) → k < place_of T e → get_or xs k 0 < e
  place_early k early =
      let here = stands k (place_low k early) in
      elim (cases_lt (get_or xs k 0) e) [
        | inl before ↦ before
        | inr behind ↦
            let le : place_of T e ≤ place_of T (get_or xs k 0) = place_of-le_from T e (get_or xs k 0) t of here.0 behind in
            absurd (omega (arith, le, here.1, early))
      ]

  -- what begins an open section stands at its place, before e
  at : (p : ℕ) → IsOpenSection T e p → (place_of T p < place_of T e) × (get_or xs (place_of T p) 0 ≡ p)
  at p is =
      let mine : thread_at T p ≡ Some t = is.same ∙ of in
      let early : place_of T p < place_of T e = place_of-later T p e t mine of is.earlier in
      let there : slice_get xs (place_of T p) ≡ Some p = subst (λ (ys : List ℕ). slice_get ys (place_of T p) ≡ Some p) (sym are) (at_place T p t mine) in (
        early,
        same_Some (get_or xs (place_of T p) 0) p (sym (slice_get-get_or xs (place_of T p) 0 (place_low (place_of T p) early)) ∙ there),
      )

  pub IsFront-none : (k : ℕ) → place_of T e ≤ k → HasNoneUpTo T e xs k → IsFront T e e
  IsFront-none k all none = (
    None,
    λ p is. none (place_of T p) (omega (arith, (at p is).0, all)) (subst (IsOpenSection T e) (sym (at p is).1) is),
    refl,
  )

  pub IsFront-some : (k : ℕ) → k < place_of T e → HasNoneUpTo T e xs k → IsOpenSection T e (get_or xs k 0) → IsFront T e (get_or xs k 0)
  IsFront-some k early none is =
      let p : ℕ = get_or xs k 0 in
      let here = stands k (place_low k early) in (
        Some p,
        (
          is,
          λ q also. elim (cases_lt (place_of T q) k) [
            | inl before ↦ absurd (none (place_of T q) before (subst (IsOpenSection T e) (sym (at q also).1) also))
            | inr behind ↦ le-from_place_of T p q t here.0 (also.same ∙ of) (omega (arith, here.1, behind))
          ],
        ),
        refl,
      )

-- one event more
pub HasNoneUpTo-more : (T : List Event) (e k : ℕ) (xs : List ℕ) → HasNoneUpTo T e xs k → ¬ IsOpenSection T e (get_or xs k 0) → HasNoneUpTo T e xs (k + 1)
HasNoneUpTo-more T e k xs none fails j early = elim (cases_lt j k) [
  | inl before ↦ none j before
  | inr behind ↦
      let same : j ≡ k = omega (arith, early, behind) in
      λ is. fails (subst (λ i. IsOpenSection T e (get_or xs i 0)) same is)
]
