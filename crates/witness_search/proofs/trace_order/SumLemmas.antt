-- How many events a row counts, as the sum of its counts.
use Rattle.std.proofs.Common.{◌≡◌, ◌≢◌, ℕ, zero, suc, ◌+◌, ◌<◌, ◌≤◌, ◌==◌, min, List, length, get_or, Some, refl, sym, ap, ◌∙◌, subst, arith, add-one, inl, inr}
use Rattle.std.proofs.lemmas.Bool.{cases_lt, cases_eq, eq-eqb, ne_eqb}
use Rattle.std.proofs.lemmas.List.Sums.{count_by_more_yes, count_by_more_no}
use Rattle.std.proofs.lemmas.Option.{get_or_from_slice_get, slice_get-get_or}
use Rattle.std.specs.List.{slice_get}
use Rattle.rapid_text.specs.Recording.{Recording, IsWellFormed}
use Rattle.rapid_text.specs.declared.event.Event.{Event}
use Rattle.rapid_text.specs.declared.event.Op.TheVariants.{Read}
use Rattle.event_index.specs.Lookups.{count_before, events_of, place_of}
use Rattle.event_index.proofs.CallerLemmas.{place_of-count, thread_here, one_thread}
use Rattle.event_index.proofs.StepLemmas.{count_before-le}
use Rattle.event_index.proofs.PlaceLemmas.{length-events_before}
use Rattle.shb_clocks.proofs.ReadLemmas.{thread_named}
use Rattle.witness_search.specs.trace_order.Layout.{IsListLength}
use Rattle.witness_search.proofs.trace_order.SizeLemmas.{IsLengthUpTo, IsLengthUpTo-start, IsLengthUpTo-push, IsLengthUpTo-skip, IsLengthUpTo-end}

-- the sum of the first n counts
pub sum_to : (ℕ → ℕ) → ℕ → ℕ
sum_to f zero = 0
sum_to f (suc n) = sum_to f n + f n

pub sum_to-start : (f : ℕ → ℕ) → sum_to f 0 ≡ 0
unfolding sum_to
sum_to-start f = refl

pub sum_to-next : (f : ℕ → ℕ) (n : ℕ) → sum_to f (n + 1) ≡ sum_to f n + f n
unfolding sum_to
sum_to-next f n = ap (sum_to f) (add-one n)

pub sum_to-same : (f g : ℕ → ℕ) (n : ℕ) → ((t : ℕ) → t < n → f t ≡ g t) → sum_to f n ≡ sum_to g n
unfolding sum_to
sum_to-same f g zero each = refl
sum_to-same f g (suc n) each = omega (arith, sum_to-same f g n (λ t lt. each t (omega arith)), each n (omega arith))

pub sum_to-le : (f : ℕ → ℕ) (m n : ℕ) → m ≤ n → sum_to f m ≤ sum_to f n
unfolding sum_to
sum_to-le f m zero le = let one : m ≡ 0 = omega arith in omega (arith, ap (sum_to f) one)
sum_to-le f m (suc n) le =
    elim (cases_eq m (suc n)) [
      | inl one ↦ omega (arith, ap (sum_to f) one)
      | inr other ↦ omega (arith, sum_to-le f m n (omega arith))
    ]

-- one count is one more
pub sum_to-more : (f g : ℕ → ℕ) (u n : ℕ) → u < n → g u ≡ f u + 1 → ((t : ℕ) → t ≢ u → g t ≡ f t) → sum_to g n ≡ sum_to f n + 1
unfolding sum_to
sum_to-more f g u zero low more rest = absurd (omega arith)
sum_to-more f g u (suc n) low more rest =
    elim (cases_eq u n) [
      | inl one ↦
          let before_it : sum_to g n ≡ sum_to f n = sum_to-same g f n (λ t lt. rest t (λ is. omega (arith, is, one, lt))) in
          omega (arith, before_it, ap g one, ap f one, more)
      | inr other ↦ omega (arith, sum_to-more f g u n (omega arith) more rest, rest n (λ is. other (sym is)))
    ]

pub sum_to-zero : (f : ℕ → ℕ) (n : ℕ) → ((t : ℕ) → f t ≡ 0) → sum_to f n ≡ 0
unfolding sum_to
sum_to-zero f zero none = refl
sum_to-zero f (suc n) none = omega (arith, sum_to-zero f n none, none n)

module _ (r : Recording) (well : IsWellFormed r) (row : ℕ → ℕ) where
  abbrev T : List Event
  T = r.events

  abbrev width : ℕ
  width = length r.threads

  -- how many of the first n events that the row counts are of the thread
  abbrev counted_of : ℕ → ℕ → ℕ
  counted_of n t = min (row t) (count_before T n t)

  module _ (n : ℕ) (v : Event) (at : slice_get T n ≡ Some v) (low : n < length T) where
    here : count_before T (n + 1) v.thread ≡ count_before T n v.thread + 1
    here =
        count_by_more_yes (λ w. w.thread == v.thread) T n v low
        (ap (λ (w : Event). w.thread == v.thread) (get_or_from_slice_get T n v v at) ∙ eq-eqb v.thread v.thread refl)

    others : (t : ℕ) → t ≢ v.thread → count_before T (n + 1) t ≡ count_before T n t
    others t other =
        count_by_more_no (λ w. w.thread == t) T n v low
        (ap (λ (w : Event). w.thread == t) (get_or_from_slice_get T n v v at) ∙ ne_eqb v.thread t (λ is. other (sym is)))

    place : place_of T n ≡ count_before T n v.thread
    place = place_of-count T n v at

    sum_next : IsLengthUpTo T row n (sum_to (counted_of n) width) → IsLengthUpTo T row (n + 1) (sum_to (counted_of (n + 1)) width)
    sum_next is =
        let of = thread_here T n v at in
        elim (cases_lt (place_of T n) (row v.thread)) [
          | inl counts ↦
              subst (IsLengthUpTo T row (n + 1))
              (sym (sum_to-more (counted_of n) (counted_of (n + 1)) v.thread width (thread_named r well n v.thread of) (omega (arith, here, place, counts))
              (λ t other. omega (arith, others t other))))
              (IsLengthUpTo-push T row n (sum_to (counted_of n) width) is (v.thread, of, counts))
          | inr late ↦
              subst (IsLengthUpTo T row (n + 1))
              (sum_to-same (counted_of n) (counted_of (n + 1)) width
              (λ t lt. elim (cases_eq t v.thread) [
                | inl one ↦ omega (arith, ap row one, ap (count_before T n) one, ap (count_before T (n + 1)) one, here, place, late)
                | inr other ↦ omega (arith, others t other)
              ]))
              (IsLengthUpTo-skip T row n (sum_to (counted_of n) width) is
              (λ counted.
              let one = one_thread T n counted.0 v.thread counted.1 of in
              omega (arith, counted.2, ap row one, late)))
        ]

  sum_up : (n : ℕ) → n ≤ length T → IsLengthUpTo T row n (sum_to (counted_of n) width)
  sum_up zero low =
      subst (IsLengthUpTo T row 0)
      (sym (sum_to-zero (counted_of 0) width (λ t. omega (arith, count_before-le T 0 t (omega arith)))))
      (IsLengthUpTo-start T row)
  sum_up (suc n) low =
      let v : Event = get_or T n (record { thread = 0; op = Read 0 }) in
      let at : slice_get T n ≡ Some v = slice_get-get_or T n _ (omega arith) in
      subst (λ (k : ℕ). IsLengthUpTo T row k (sum_to (counted_of k) width)) (add-one n) (sum_next n v at (omega arith) (sum_up n (omega arith)))

  module _ (within : (t : ℕ) → row t ≤ length (events_of T t)) where
    sum_is : sum_to (counted_of (length T)) width ≡ sum_to row width
    sum_is =
        sum_to-same (counted_of (length T)) row width
        (λ t lt. omega (arith, within t, length-events_before T t (length T) (omega arith)))

    pub IsListLength-sum : IsListLength T row (sum_to row width)
    IsListLength-sum =
        IsLengthUpTo-end T row (length T) (sum_to row width)
        (subst (IsLengthUpTo T row (length T)) sum_is (sum_up (length T) (omega arith))) refl

    -- no sum of counts is greater
    pub sum_to-bound : (n : ℕ) → n ≤ width → sum_to row n ≤ length T
    sum_to-bound n le = omega (arith, sum_to-le row n width le, (sum_up (length T) (omega arith)).3, sum_is)
