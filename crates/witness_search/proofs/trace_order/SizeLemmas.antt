-- How many events a row counts, and of how many threads.
use Rattle.std.proofs.Common.{◌≡◌, ℕ, ◌+◌, ◌<◌, ◌≤◌, List, [], ◌∷◌, ◌++◌, length, get_or, Contains, refl, ap, ◌∙◌, subst, arith, inl, inr}
use Rattle.std.proofs.lemmas.Bool.{cases_lt}
use Rattle.std.proofs.lemmas.List.{length-append}
use Rattle.std.proofs.lemmas.List.Elements.{Contains-append_left, Contains-append_right, Contains-append_cases, Contains-get_or}
use Rattle.std.proofs.lemmas.List.Quantifiers.{all_pairs_push}
use Rattle.std.proofs.lemmas.Option.{slice_get-get_or}
use Rattle.rapid_text.specs.Recording.{Recording, IsWellFormed}
use Rattle.event_index.specs.Lookups.{events_of}
use Rattle.rapid_text.specs.declared.event.Event.{Event}
use Rattle.event_index.proofs.CallerLemmas.{one_thread, place_of-events_of}
use Rattle.must_order.specs.Layout.{IsCounted}
use Rattle.schedule.proofs.CallerLemmas.{Contains-here}
use Rattle.shb_clocks.proofs.ReadLemmas.{thread_named}
use Rattle.witness_search.proofs.RisingLemmas.{no_member, member_cases}
use Rattle.witness_search.specs.trace_order.InOrder.{IsBaseOfPair}
use Rattle.witness_search.specs.trace_order.Layout.{IsCountedList, IsCountedUpTo, IsNeededRow, IsListLength, IsThreadCount}
use Rattle.witness_search.specs.trace_order.Sizes.{IsSizeInOrder, HasThread}
use Rattle.witness_search.proofs.trace_order.AnswerLemmas.{IsInOrder-counted}
use Rattle.witness_search.proofs.trace_order.ListingLemmas.{IsCountedUpTo-start, IsCountedUpTo-push, IsCountedUpTo-skip, IsCountedUpTo-end}

-- k of the events before n are counted
abbrev pub IsLengthUpTo : List Event → (ℕ → ℕ) → ℕ → ℕ → Type 0
IsLengthUpTo T row n k = (P : List ℕ) × IsCountedUpTo T row n P × (length P ≡ k) × (k ≤ n)

module _ (T : List Event) (row : ℕ → ℕ) where
  pub IsLengthUpTo-start : IsLengthUpTo T row 0 0
  IsLengthUpTo-start = ([], IsCountedUpTo-start T row, refl, omega arith)

  module _ (n k : ℕ) (is : IsLengthUpTo T row n k) where
    pub IsLengthUpTo-push : IsCounted T row n → IsLengthUpTo T row (n + 1) (k + 1)
    IsLengthUpTo-push counted =
        (is.0 ++ n ∷ [], IsCountedUpTo-push T row n is.0 is.1 counted, length-append is.0 (n ∷ []) ∙ ap (λ m. m + 1) is.2, omega (arith, is.3))

    pub IsLengthUpTo-skip : ¬ IsCounted T row n → IsLengthUpTo T row (n + 1) k
    IsLengthUpTo-skip other = (is.0, IsCountedUpTo-skip T row n is.0 is.1 other, is.2, omega (arith, is.3))

    pub IsLengthUpTo-end : n ≡ length T → IsListLength T row k
    IsLengthUpTo-end end = (is.0, IsCountedUpTo-end T row n is.0 is.1 end, is.2)

-- the row counts events of k of the threads before n
abbrev pub IsThreadCountUpTo : (ℕ → ℕ) → ℕ → ℕ → Type 0
IsThreadCountUpTo row n k = IsThreadCount row n k × (k ≤ n)

module _ (row : ℕ → ℕ) where
  pub IsThreadCount-start : IsThreadCountUpTo row 0 0
  IsThreadCount-start = (
    (
      [],
      record {
        rising = λ i j d ij jn. absurd (omega arith);
        members = λ e. (λ m. absurd (no_member e m), λ h. absurd (omega (arith, h.0)));
      },
      refl,
    ),
    omega arith,
  )

  module _ (n k : ℕ) (is : IsThreadCountUpTo row n k) where
    abbrev ts : List ℕ
    ts = is.0.0

    last_is : (e : ℕ) → Contains (n ∷ []) e → n ≡ e
    last_is e m = elim (member_cases n [] e m) [ inl one ↦ one | inr none ↦ absurd (no_member e none) ]

    pub IsThreadCount-push : 0 < row n → IsThreadCountUpTo row (n + 1) (k + 1)
    IsThreadCount-push some = (
      (
        ts ++ n ∷ [],
        record {
          rising = all_pairs_push (λ x y. x < y) ts n is.0.1.rising (λ i d low. ((is.0.1.members (get_or ts i d)).0 (Contains-get_or ts i d low)).0);
          members = λ t. (
            λ m. elim (Contains-append_cases ts (n ∷ []) t m) [
              | inl earlier ↦ let h = (is.0.1.members t).0 earlier in (omega (arith, h.0), h.1)
              | inr last ↦ let same = last_is t last in (omega arith, subst (λ (u : ℕ). 0 < row u) same some)
            ],
            λ h. elim (cases_lt t n) [
              | inl earlier ↦ Contains-append_left ts (n ∷ []) t ((is.0.1.members t).1 (earlier, h.1))
              | inr late ↦ Contains-append_right ts (n ∷ []) t (Contains-here n t [] (omega (arith, h.0)))
            ],
          );
        },
        length-append ts (n ∷ []) ∙ ap (λ m. m + 1) is.0.2,
      ),
      omega (arith, is.1),
    )

    pub IsThreadCount-skip : ¬ (0 < row n) → IsThreadCountUpTo row (n + 1) k
    IsThreadCount-skip other = (
      (
        ts,
        record {
          rising = is.0.1.rising;
          members = λ t. (
            λ m. let h = (is.0.1.members t).0 m in (omega (arith, h.0), h.1),
            λ h. elim (cases_lt t n) [
              | inl earlier ↦ (is.0.1.members t).1 (earlier, h.1)
              | inr late ↦
                  let same : t ≡ n = omega (arith, h.0) in
                  absurd (other (subst (λ (u : ℕ). 0 < row u) same h.1))
            ],
          );
        },
        is.0.2,
      ),
      omega (arith, is.1),
    )

-- the row's counts are the size of the list in order
module _
    (r : Recording) (well : IsWellFormed r) (a b : ℕ) (row : ℕ → ℕ) (needs : IsNeededRow r.events (IsBaseOfPair r.events a b) row)
    (within : (t : ℕ) → row t ≤ length (events_of r.events t)) where
  counted_thread : (P : List ℕ) → IsCountedList r.events row P → (t : ℕ) → 0 < row t → HasThread r.events P t
  counted_thread P are t some =
      let e : ℕ = get_or (events_of r.events t) 0 0 in
      let first = place_of-events_of r.events t 0 e (slice_get-get_or (events_of r.events t) 0 0 (omega (arith, some, within t))) in
      (e, (are.members e).1 (t, first.1, omega (arith, first.2, some)), first.1)

  thread_counted : (P : List ℕ) → IsCountedList r.events row P → (t : ℕ) → HasThread r.events P t → (t < length r.threads) × (0 < row t)
  thread_counted P are t (e, m, of) =
      let counted = (are.members e).0 m in
      let same : counted.0 ≡ t = one_thread r.events e counted.0 t counted.1 of in
      (thread_named r well e t of, omega (arith, counted.2, ap row same))

  pub IsSizeInOrder-counted : (n k : ℕ) → IsListLength r.events row n → IsThreadCount row (length r.threads) k → IsSizeInOrder r.events a b (n, k)
  IsSizeInOrder-counted n k (P, are, long) (ts, threads, few) = (
    P,
    IsInOrder-counted r.events a b row P needs are,
    record {
      events = long;
      threads = ts;
      are = record {
        rising = threads.rising;
        members = λ t. (
          λ m. counted_thread P are t ((threads.members t).0 m).1,
          λ has. (threads.members t).1 (thread_counted P are t has),
        );
      };
      count = few;
    },
  )
