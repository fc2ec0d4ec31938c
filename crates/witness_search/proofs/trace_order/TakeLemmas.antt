-- What is counted when an event is taken in; rows that are read.
use Rattle.std.proofs.Common.{◌≡◌, ℕ, ◌+◌, ◌<◌, max, set, List, length, get_or, Option, Some, refl, sym, ap, ◌∙◌, subst, arith, inl, inr}
use Rattle.std.specs.List.{slice_get}
use Rattle.std.proofs.lemmas.Bool.{cases_eq, cases_lt}
use Rattle.std.proofs.lemmas.Grind.{get_or-set_at}
use Rattle.std.proofs.lemmas.List.{get_or-set_other}
use Rattle.std.proofs.lemmas.Option.{same_Some, slice_get_within, slice_get-get_or}
use Rattle.rapid_text.specs.declared.event.Event.{Event}
use Rattle.event_index.specs.Events.{thread_at}
use Rattle.event_index.specs.Lookups.{events_of, place_of, base_of}
use Rattle.event_index.proofs.CallerLemmas.{thread_here, events_of-place, place_of-events_of}
use Rattle.shb_clocks.proofs.PlaceLemmas.{le-from_place_of}
use Rattle.must_order.specs.Layout.{source_of, IsCounted}
use Rattle.witness_search.specs.trace_order.Layout.{Takes, IsSought}
use Rattle.witness_search.proofs.trace_order.ClosingLemmas.{counted-grows}

-- the count of an event's thread is raised to the event
pub Takes-cell :
    (T : List Event) (e : ℕ) (v : Event) → slice_get T e ≡ Some v → (row : List ℕ) (n : ℕ) → v.thread < length row
    → n ≡ max (get_or row v.thread 0) (place_of T e + 1) → (o : Option ℕ) → o ≡ Some e
    → Takes T (λ d. o ≡ Some d) (λ t. get_or row t 0) (λ t. get_or (set row v.thread n) t 0)
Takes-cell T e v at row n low is o known =
    let here : get_or (set row v.thread n) v.thread 0 ≡ n = get_or-set_at row v.thread v.thread n 0 refl low in
    let of = thread_here T e v at in
    record {
      grows = λ t. elim (cases_eq t v.thread) [
        | inl one ↦
            let there : get_or (set row v.thread n) t 0 ≡ n = get_or-set_at row v.thread t n 0 one low in
            let old : get_or row t 0 ≡ get_or row v.thread 0 = ap (λ k. get_or row k 0) one in
            omega (arith, there, old, is)
        | inr other ↦ omega (arith, get_or-set_other row v.thread t n 0 other)
      ];
      has = λ d owes.
          let one : e ≡ d = same_Some e d (sym known ∙ owes) in
          subst (IsCounted T (λ t. get_or (set row v.thread n) t 0)) one (v.thread, of, omega (arith, here, is));
      sound = λ a counted.
          let t : ℕ = counted.0 in
          elim (cases_eq t v.thread) [
            | inr other ↦ inl (t, counted.1, omega (arith, counted.2, get_or-set_other row v.thread t n 0 other))
            | inl one ↦
                let there : get_or (set row v.thread n) t 0 ≡ n = get_or-set_at row v.thread t n 0 one low in
                let old : get_or row t 0 ≡ get_or row v.thread 0 = ap (λ k. get_or row k 0) one in
                elim (cases_lt (place_of T a) (get_or row t 0)) [
                  | inl before ↦ inl (t, counted.1, before)
                  | inr after ↦
                      let of_a : thread_at T a ≡ Some v.thread = counted.1 ∙ ap Some one in
                      inr (e, known, v.thread, of_a, of, le-from_place_of T a e v.thread of_a of (omega (arith, counted.2, there, old, is, after)))
                ]
          ];
      within = λ bound t. elim (cases_eq t v.thread) [
        | inl one ↦
            let there : get_or (set row v.thread n) t 0 ≡ n = get_or-set_at row v.thread t n 0 one low in
            let place : place_of T e < length (events_of T v.thread) = slice_get_within (events_of T v.thread) (place_of T e) e (events_of-place T e v at) in
            let same_bound : length (events_of T t) ≡ length (events_of T v.thread) = ap (λ k. length (events_of T k)) one in
            omega (arith, there, is, place, same_bound, bound v.thread)
        | inr other ↦ omega (arith, bound t, get_or-set_other row v.thread t n 0 other)
      ];
    }

-- two events, one after the other
pub Takes-sought :
    (T : List Event) (e : ℕ) (o p : Option ℕ) (row middle new : ℕ → ℕ) → o ≡ base_of T e → p ≡ source_of T e
    → Takes T (λ d. o ≡ Some d) row middle → Takes T (λ d. p ≡ Some d) middle new → Takes T (IsSought T e) row new
Takes-sought T e o p row middle new base source one two = record {
  grows = λ t. omega (arith, one.grows t, two.grows t);
  has = λ d asks. elim asks [
    | inl is ↦ counted-grows T middle new two.grows d (one.has d (base ∙ is))
    | inr is ↦ two.has d (source ∙ is)
  ];
  sound = λ a counted. elim (two.sound a counted) [
    | inr up ↦ inr (up.0, inr (sym source ∙ up.1), up.2, up.3, up.4, up.5)
    | inl old ↦ elim (one.sound a old) [
      | inl older ↦ inl older
      | inr up ↦ inr (up.0, inl (sym base ∙ up.1), up.2, up.3, up.4, up.5)
    ]
  ];
  within = λ bound. two.within (one.within bound);
}

-- the event at a place of a thread
pub read_event : (T : List Event) (t k : ℕ) (xs : List ℕ) → xs ≡ events_of T t → k < length (events_of T t) → place_of T (get_or xs k 0) ≡ k
read_event T t k xs is low =
    subst (λ (ys : List ℕ). place_of T (get_or ys k 0) ≡ k) (sym is)
    (place_of-events_of T t k (get_or (events_of T t) k 0) (slice_get-get_or (events_of T t) k 0 low)).2
