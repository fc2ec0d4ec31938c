-- The counts of threads by their entries: what the counts are at a place, and what a write or a new entry there makes of them.
use Rattle.std.proofs.Common.{◌≡◌, ◌≢◌, ℕ, zero, suc, ◌+◌, ◌-◌, ◌<◌, ◌==◌, cond, Bool, true, false, List, [], ◌∷◌, length, get_or, slice_set, Result, Ok, Err, IfOk, IfErr, sym, refl, ap, ◌∙◌, subst, arith, inl, inr, length-set, get_or-set_same, get_or-set_other}
use Rattle.std.specs.List.{insert}
use Rattle.std.specs.List.Sorted.{IsNonDecreasingBy, IsBinarySearchResult, IsSearchInRange}
use Rattle.std.specs.Ordering.{is_lt, nat_cmp, ordering_index}
use Rattle.std.specs.Cmp.{nat_cmp_total}
use Rattle.std.specs.declared.cmp.Ordering.{Ordering}
use Rattle.std.specs.declared.cmp.Ordering.TheVariants.{Less, Equal, Greater}
use Rattle.std.proofs.lemmas.Bool.{cases_eq, cases_lt, eq-eqb, ne_eqb}
use Rattle.std.proofs.lemmas.Cmp.{ranked}
use Rattle.std.proofs.lemmas.List.Sorted.{searchable_from_sorted}
use Rattle.std.proofs.lemmas.List.Edits.{length-insert, get_or-insert_below, get_or-insert_at, get_or-insert_above}
use Rattle.schedule.specs.Counts.{count_in, AreByThread, IsPlaceOf, IsGapFor}
use Rattle.schedule.specs.declared.counts.ThreadCount.{ThreadCount}

pub AreByThread-nil : AreByThread []
AreByThread-nil i j d lt within = absurd (omega (arith, within))

-- the order of the entries after the first
by_thread-tail : (c : ThreadCount) (cs : List ThreadCount) → AreByThread (c ∷ cs) → AreByThread cs
by_thread-tail c cs order i j d lt within = order (suc i) (suc j) d (omega (arith, lt)) (omega (arith, within))

gap-tail : (c : ThreadCount) (cs : List ThreadCount) (t i : ℕ) → IsGapFor (c ∷ cs) t (suc i) → IsGapFor cs t i
gap-tail c cs t i gap = record {
  within = omega (arith, gap.within);
  below = λ k d lt. gap.below (suc k) d (omega (arith, lt));
  above = λ k d le lt. gap.above (suc k) d (omega (arith, le)) (omega (arith, lt));
}

-- a thread that has no entry has no count
count_in-apart : (cs : List ThreadCount) (t : ℕ) → ((k : ℕ) (d : ThreadCount) → k < length cs → (get_or cs k d).thread ≢ t) → count_in cs t ≡ 0
count_in-apart [] t apart = refl
count_in-apart (c ∷ cs) t apart =
    ap (λ b. cond b c.count (count_in cs t)) (ne_eqb c.thread t (apart 0 c (omega arith)))
    ∙ count_in-apart cs t (λ k d within. apart (suc k) d (omega (arith, within)))

pub count_in-gap : (cs : List ThreadCount) (t i : ℕ) → IsGapFor cs t i → count_in cs t ≡ 0
count_in-gap cs t i gap =
    count_in-apart cs t
    (λ k d within same.
    elim (cases_lt k i) [
      | inl below ↦ let less = gap.below k d below in omega (arith, less, same)
      | inr above ↦ let more = gap.above k d above within in omega (arith, more, same)
    ])

-- the entry of the thread tells its count
pub count_in-place : (cs : List ThreadCount) → AreByThread cs → (t i : ℕ) (d : ThreadCount) → IsPlaceOf cs t i → count_in cs t ≡ (get_or cs i d).count
count_in-place [] order t i d place = let none = place.0 in absurd (omega (arith, none))
count_in-place (c ∷ cs) order t zero d place = ap (λ b. cond b c.count (count_in cs t)) (eq-eqb c.thread t (place.1 c))
count_in-place (c ∷ cs) order t (suc i) d place =
    let lt = place.0 in
    let higher : c.thread < (get_or cs i d).thread = order 0 (suc i) d (omega arith) lt in
    let is : (get_or cs i d).thread ≡ t = place.1 d in
    ap (λ b. cond b c.count (count_in cs t)) (ne_eqb c.thread t (λ same. omega (arith, higher, is, same)))
    ∙ count_in-place cs (by_thread-tail c cs order) t i d (omega (arith, lt), place.1)

-- two threads that differ are looked for in either order
cond-apart : (s t u x y z : ℕ) → s ≢ t → cond (s == u) x (cond (t == u) y z) ≡ cond (t == u) y (cond (s == u) x z)
cond-apart s t u x y z apart =
    elim (cases_eq s u) [
      | inl is ↦
          let off : (t == u) ≡ false = ne_eqb t u (λ h. apart (is ∙ sym h)) in
          ap (λ b. cond (s == u) x (cond b y z)) off ∙ sym (ap (λ b. cond b y (cond (s == u) x z)) off)
      | inr other ↦
          let off : (s == u) ≡ false = ne_eqb s u other in
          ap (λ b. cond b x (cond (t == u) y z)) off ∙ sym (ap (λ b. cond (t == u) y (cond b x z)) off)
    ]

cond-twice : (b : Bool) (x y z : ℕ) → cond b x z ≡ cond b x (cond b y z)
cond-twice true x y z = refl
cond-twice false x y z = refl

-- a count that is written
pub count_in-set : (cs : List ThreadCount) → AreByThread cs → (t i n : ℕ) → IsPlaceOf cs t i → (u : ℕ) → count_in (slice_set cs i (record { thread = t; count = n })) u ≡ cond (t == u) n (count_in cs u)
count_in-set [] order t i n place u = let none = place.0 in absurd (omega (arith, none))
count_in-set (c ∷ cs) order t zero n place u =
    subst (λ s. cond (t == u) n (count_in cs u) ≡ cond (t == u) n (cond (s == u) c.count (count_in cs u))) (sym (place.1 c)) (cond-twice (t == u) n c.count (count_in cs u))
count_in-set (c ∷ cs) order t (suc i) n place u =
    let lt = place.0 in
    let higher : c.thread < (get_or cs i c).thread = order 0 (suc i) c (omega arith) lt in
    let is : (get_or cs i c).thread ≡ t = place.1 c in
    ap (cond (c.thread == u) c.count) (count_in-set cs (by_thread-tail c cs order) t i n (omega (arith, lt), place.1) u)
    ∙ cond-apart c.thread t u c.count n (count_in cs u) (λ same. omega (arith, higher, is, same))

module _ (cs : List ThreadCount) (t i n : ℕ) (place : IsPlaceOf cs t i) where
  thread-set : (k : ℕ) (d : ThreadCount) → (get_or (slice_set cs i (record { thread = t; count = n })) k d).thread ≡ (get_or cs k d).thread
  thread-set k d =
      let e : ThreadCount = record { thread = t; count = n } in
      elim (cases_eq k i) [
        | inl same ↦
            ap (λ j. (get_or (slice_set cs i e) j d).thread) same
            ∙ ap (λ (c : ThreadCount). c.thread) (get_or-set_same cs i e d place.0)
            ∙ sym (place.1 d)
            ∙ ap (λ j. (get_or cs j d).thread) (sym same)
        | inr other ↦ ap (λ (c : ThreadCount). c.thread) (get_or-set_other cs i k e d other)
      ]

  pub AreByThread-set : AreByThread cs → AreByThread (slice_set cs i (record { thread = t; count = n }))
  AreByThread-set order j k d lt within =
      let e : ThreadCount = record { thread = t; count = n } in
      let here = order j k d lt (subst (λ (m : ℕ). k < m) (length-set cs i e) within) in
      omega (arith, here, thread-set j d, thread-set k d)

-- an entry that is put in
pub count_in-insert : (cs : List ThreadCount) (t i n : ℕ) → IsGapFor cs t i → (u : ℕ) → count_in (insert cs i (record { thread = t; count = n })) u ≡ cond (t == u) n (count_in cs u)
count_in-insert cs t zero n gap u = refl
count_in-insert [] t (suc i) n gap u = let none = gap.within in absurd (omega (arith, none))
count_in-insert (c ∷ cs) t (suc i) n gap u =
    let less : c.thread < t = gap.below 0 c (omega arith) in
    ap (cond (c.thread == u) c.count) (count_in-insert cs t i n (gap-tail c cs t i gap) u)
    ∙ cond-apart c.thread t u c.count n (count_in cs u) (λ same. omega (arith, less, same))

module _ (cs : List ThreadCount) (t i : ℕ) (gap : IsGapFor cs t i) where
  abbrev entry : ThreadCount
  entry = record { thread = t; count = 0 }

  -- one of a thread with no events changes no count
  pub count_in-room : (u : ℕ) → count_in (insert cs i (record { thread = t; count = 0 })) u ≡ count_in cs u
  count_in-room u =
      count_in-insert cs t i 0 gap u
      ∙ elim (cases_eq t u) [
        | inl same ↦
            ap (λ b. cond b 0 (count_in cs u)) (eq-eqb t u same) ∙ sym (ap (count_in cs) (sym same) ∙ count_in-gap cs t i gap)
        | inr other ↦ ap (λ b. cond b 0 (count_in cs u)) (ne_eqb t u other)
      ]

  below_gap : (k : ℕ) (d : ThreadCount) → k < i → (get_or (insert cs i entry) k d).thread ≡ (get_or cs k d).thread
  below_gap k d lt = ap (λ (c : ThreadCount). c.thread) (get_or-insert_below cs i entry d k lt gap.within)

  in_gap : (k : ℕ) (d : ThreadCount) → k ≡ i → (get_or (insert cs i entry) k d).thread ≡ t
  in_gap k d is =
      ap (λ j. (get_or (insert cs i entry) j d).thread) is ∙ ap (λ (c : ThreadCount). c.thread) (get_or-insert_at cs i entry d gap.within)

  above_gap : (k : ℕ) (d : ThreadCount) → i < k → (get_or (insert cs i entry) k d).thread ≡ (get_or cs (k - 1) d).thread
  above_gap k d lt =
      let is : k ≡ (k - 1) + 1 = omega (arith, lt) in
      ap (λ j. (get_or (insert cs i entry) j d).thread) is
      ∙ ap (λ (c : ThreadCount). c.thread) (get_or-insert_above cs i entry d (k - 1) (omega (arith, lt)) gap.within)

  pub IsPlaceOf-insert : IsPlaceOf (insert cs i (record { thread = t; count = 0 })) t i
  IsPlaceOf-insert =
      let long = length-insert cs i entry gap.within in
      let fits = gap.within in
      (omega (arith, long, fits), λ d. in_gap i d refl)

  pub AreByThread-insert : AreByThread cs → AreByThread (insert cs i (record { thread = t; count = 0 }))
  AreByThread-insert order j k d lt within =
      let long = length-insert cs i entry gap.within in
      let fits = gap.within in
      elim (cases_lt k i) [
        | inl low ↦ omega (arith, order j k d lt (omega (arith, low, fits)), below_gap j d (omega (arith, low, lt)), below_gap k d low)
        | inr high ↦
            elim (cases_lt j i) [
              | inl low ↦
                  elim (cases_eq k i) [
                    | inl here ↦ omega (arith, gap.below j d low, below_gap j d low, in_gap k d here)
                    | inr past ↦
                        omega (arith, order j (k - 1) d (omega (arith, low, high, past)) (omega (arith, within, long, high, past)), below_gap j d low, above_gap k d (omega (arith, high, past)))
                  ]
              | inr late ↦
                  elim (cases_eq j i) [
                    | inl here ↦
                        omega (arith, gap.above (k - 1) d (omega (arith, here, lt)) (omega (arith, within, long, lt)), in_gap j d here, above_gap k d (omega (arith, here, lt)))
                    | inr past ↦
                        omega (arith, order (j - 1) (k - 1) d (omega (arith, late, past, lt)) (omega (arith, within, long, lt)), above_gap j d (omega (arith, late, past)), above_gap k d (omega (arith, late, past, lt)))
                  ]
            ]
      ]

-- one that has no entry has no count, with one event less too
pub count_in-none : (cs : List ThreadCount) (t i : ℕ) → IsGapFor cs t i → (u : ℕ) → count_in cs u ≡ cond (t == u) (count_in cs t - 1) (count_in cs u)
count_in-none cs t i gap u =
    let none = count_in-gap cs t i gap in
    elim (cases_eq t u) [
      | inl same ↦
          let here : count_in cs u ≡ count_in cs t - 1 = omega (arith, none, ap (count_in cs) same) in
          here ∙ sym (ap (λ b. cond b (count_in cs t - 1) (count_in cs u)) (eq-eqb t u same))
      | inr other ↦ sym (ap (λ b. cond b (count_in cs t - 1) (count_in cs u)) (ne_eqb t u other))
    ]

-- what a binary search by the threads finds
not_below : (x y : ℕ) (r : Ordering) → r ≡ nat_cmp x y → y < x → is_lt r ≡ false
not_below x y Less is above = let less : x < y = ranked x y Less is in absurd (omega (arith, less, above))
not_below x y Equal is above = refl
not_below x y Greater is above = refl

module _ (cs : List ThreadCount) (order : AreByThread cs) (t : ℕ) where
  threads_rise : IsNonDecreasingBy (λ (c : ThreadCount). ordering_index (nat_cmp c.thread t)) cs
  threads_rise =
      searchable_from_sorted nat_cmp_total (λ (c : ThreadCount). c.thread) cs t
      (λ k d _ next.
      not_below (get_or cs (k + 1) d).thread (get_or cs k d).thread (nat_cmp (get_or cs (k + 1) d).thread (get_or cs k d).thread) refl (order k (k + 1) d (omega arith) next))

  pub place-searched : (r : Result ℕ ℕ) → IsSearchInRange r (length cs) → IsBinarySearchResult (λ (c : ThreadCount). nat_cmp c.thread t) cs r → IfOk r (IsPlaceOf cs t)
  place-searched (Ok i) within found = (within, λ d. ranked (get_or cs i d).thread t Equal (sym (found d)))
  place-searched (Err i) within found = tt

  pub gap-searched : (r : Result ℕ ℕ) → IsSearchInRange r (length cs) → IsBinarySearchResult (λ (c : ThreadCount). nat_cmp c.thread t) cs r → IfErr r (IsGapFor cs t)
  gap-searched (Ok i) within found = tt
  gap-searched (Err i) within found = record {
    within = within;
    below = λ k d lt. ranked (get_or cs k d).thread t Less (sym ((found threads_rise).0 k d (omega arith) lt));
    above = λ k d le lt. ranked (get_or cs k d).thread t Greater (sym ((found threads_rise).1 k d le lt));
  }
