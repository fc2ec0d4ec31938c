-- The next events of the threads, taken up thread by thread into a rising list.
use Rattle.std.proofs.Common.{◌≡◌, inl, inr, ℕ, zero, suc, ◌+◌, ◌<◌, ◌≤◌, Bool, true, false, List, [], ◌∷◌, Option, Some, None, length, filter, get_or, slice_get, refl, sym, ap, ◌∙◌, subst, arith}
use Rattle.std.specs.BTreeSet.{insert_key}
use Rattle.std.specs.List.{range_with_len}
use Rattle.std.specs.Option.{option_map}
use Rattle.std.specs.Ordering.{nat_cmp, match_ordering}
use Rattle.std.specs.declared.cmp.Ordering.TheVariants.{Less, Greater}
use Rattle.std.specs.Cmp.{nat_cmp_is}
use Rattle.std.proofs.lemmas.Bool.{cases_Bool, cases_lt, lt-ltb, le-ltb, eq-eqb}
use Rattle.std.proofs.lemmas.Bool.Decides.{eqb_tells}
use Rattle.std.proofs.lemmas.List.Elements.{All-get_or}
use Rattle.std.proofs.lemmas.Option.{none-some, same_Some, get_or_from_slice_get, slice_get_within}
use Rattle.rapid_text.specs.declared.event.Event.{Event}
use Rattle.event_index.specs.Lookups.{before}
use Rattle.event_index.proofs.CallerLemmas.{place_of-events_of}
use Rattle.schedule.specs.Refusals.{same_option, next_of}
use Rattle.rapid_text.specs.Recording.{Recording, IsNamed, IsWellFormed}
use Rattle.inverse_log.specs.Next.{next_by, is_next, next_below_by, is_next_below}

-- tests that agree on the numbers of a range keep the same of them
pub filter_same : (p q : ℕ → Bool) (a m : ℕ) → ((x : ℕ) → a ≤ x → x < a + m → p x ≡ q x) → filter p (range_with_len a m) ≡ filter q (range_with_len a m)
filter_same p q a zero same = refl
filter_same p q a (suc m) same =
    let rest : filter p (range_with_len (a + 1) m) ≡ filter q (range_with_len (a + 1) m) = filter_same p q (a + 1) m (λ x low high. same x (omega arith) (omega arith)) in
    elim (cases_Bool (q a)) [
      | inl h ↦ rw (same a (omega arith) (omega arith) ∙ h, h) (ap (λ xs. a ∷ xs) rest)
      | inr h ↦ rw (same a (omega arith) (omega arith) ∙ h, h) rest
    ]

-- a number below all others goes to the front
insert_low : (p : ℕ → Bool) (e a m : ℕ) → e < a → insert_key nat_cmp (filter p (range_with_len a m)) e ≡ e ∷ filter p (range_with_len a m)
insert_low p e a zero low = refl
insert_low p e a (suc m) low = elim (cases_Bool (p a)) [
  | inl h ↦
      let rest : List ℕ = filter p (range_with_len (a + 1) m) in
      rw h
      (subst
      (λ r. match_ordering r (e ∷ a ∷ rest) (a ∷ rest) (a ∷ insert_key nat_cmp rest e) ≡ e ∷ a ∷ rest)
      (nat_cmp_is e a Less low)
      refl)
  | inr h ↦ rw h (insert_low p e (a + 1) m (omega arith))
]

-- one more number of the range is kept
insert_kept : (p q : ℕ → Bool) (e : ℕ) → p e ≡ false → q e ≡ true → ((x : ℕ) → (x ≡ e → ⊥) → p x ≡ q x) → (a m : ℕ) → a ≤ e → e < a + m → insert_key nat_cmp (filter p (range_with_len a m)) e ≡ filter q (range_with_len a m)
insert_kept p q e not_yet now same a zero low high = absurd (omega arith)
insert_kept p q e not_yet now same a (suc m) low high = elim (cases_lt a e) [
  | inl early ↦
      let rest : List ℕ = filter p (range_with_len (a + 1) m) in
      let more : insert_key nat_cmp rest e ≡ filter q (range_with_len (a + 1) m) = insert_kept p q e not_yet now same (a + 1) m (omega arith) (omega arith) in
      let agree : p a ≡ q a = same a (λ is. absurd (omega arith)) in
      elim (cases_Bool (q a)) [
        | inl h ↦
            rw (agree ∙ h, h)
            (subst
            (λ r. match_ordering r (e ∷ a ∷ rest) (a ∷ rest) (a ∷ insert_key nat_cmp rest e) ≡ a ∷ filter q (range_with_len (a + 1) m))
            (nat_cmp_is e a Greater early)
            (ap (λ xs. a ∷ xs) more))
        | inr h ↦ rw (agree ∙ h, h) more
      ]
  | inr late ↦
      let here : a ≡ e = omega (arith, low, late) in
      let rest : filter p (range_with_len (a + 1) m) ≡ filter q (range_with_len (a + 1) m) = filter_same p q (a + 1) m (λ x up _. same x (λ is. absurd (omega arith))) in
      rw (ap p here ∙ not_yet, ap q here ∙ now)
      (insert_low p e (a + 1) m (omega arith) ∙ ap (λ xs. e ∷ xs) rest ∙ ap (λ k. k ∷ filter q (range_with_len (a + 1) m)) (sym here))
]

another : (o : Option ℕ) (x : ℕ) → (o ≡ Some x → ⊥) → same_option o (Some x) ≡ false
another None x apart = refl
another (Some e) x apart = elim (eqb_tells e x) [ inl h ↦ absurd (apart (ap Some h.1)) | inr h ↦ h.0 ]

module _ (T : List Event) (P : List ℕ) (t : ℕ) where
  -- of the events that are not the next one of thread t, no more are taken up with it
  below_same : (x : ℕ) (o : Option Event) → (next_of T P t ≡ Some x → ⊥) → next_below_by T P t x o ≡ next_below_by T P (t + 1) x o
  below_same x None apart = refl
  below_same x (Some v) apart = elim (cases_lt v.thread t) [
    | inl low ↦ rw (lt-ltb v.thread t low, lt-ltb v.thread (t + 1) (omega arith)) refl
    | inr high ↦ elim (cases_lt t v.thread) [
      | inl up ↦ rw (le-ltb v.thread t high, le-ltb v.thread (t + 1) (omega arith)) refl
      | inr not_up ↦
          let here : v.thread ≡ t = omega (arith, high, not_up) in
          let none : same_option (next_of T P v.thread) (Some x) ≡ false = ap (λ u. same_option (next_of T P u) (Some x)) here ∙ another (next_of T P t) x apart in
          rw (le-ltb v.thread t high, lt-ltb v.thread (t + 1) (omega arith), none) refl
    ]
  ]

  -- the next event of thread t is taken up with it
  below_new : (e : ℕ) (o : Option Event) → option_map (λ (v : Event). v.thread) o ≡ Some t → next_of T P t ≡ Some e → (next_below_by T P t e o ≡ false) × (next_below_by T P (t + 1) e o ≡ true)
  below_new e None of next = absurd (none-some t of)
  below_new e (Some v) of next =
      let here : v.thread ≡ t = same_Some v.thread t of in
      let found : same_option (next_of T P v.thread) (Some e) ≡ true = ap (λ u. same_option (next_of T P u) (Some e)) here ∙ ap (λ o. same_option o (Some e)) next ∙ eq-eqb e e refl in (
        rw (le-ltb v.thread t (omega (arith, here))) refl,
        rw (lt-ltb v.thread (t + 1) (omega (arith, here)), found) refl,
      )

  -- the thread's next event is put in
  pub next_put : (e : ℕ) → next_of T P t ≡ Some e → insert_key nat_cmp (filter (is_next_below T P t) (before (length T))) e ≡ filter (is_next_below T P (t + 1)) (before (length T))
  next_put e next =
      let found = place_of-events_of T t _ e next in
      let new = below_new e (slice_get T e) found.1 next in
      insert_kept (is_next_below T P t) (is_next_below T P (t + 1)) e new.0 new.1 (λ x apart. below_same x (slice_get T x) (λ at. apart (same_Some x e (sym at ∙ next)))) 0 (length T) (omega arith) (omega (arith, found.0))

  -- all events of the thread are in the list
  pub next_none : next_of T P t ≡ None → filter (is_next_below T P t) (before (length T)) ≡ filter (is_next_below T P (t + 1)) (before (length T))
  next_none none = filter_same (is_next_below T P t) (is_next_below T P (t + 1)) 0 (length T) (λ x _ _. below_same x (slice_get T x) (λ at. none-some x (sym none ∙ at)))

none_by : (T : List Event) (P : List ℕ) (x : ℕ) (o : Option Event) → next_below_by T P 0 x o ≡ false
none_by T P x None = refl
none_by T P x (Some v) = rw (le-ltb v.thread 0 (omega arith)) refl

none_kept : (p : ℕ → Bool) (xs : List ℕ) → ((x : ℕ) → p x ≡ false) → filter p xs ≡ []
none_kept p [] fails = refl
none_kept p (x ∷ xs) fails = rw (fails x) (none_kept p xs fails)

-- before the first thread there is none
pub next_first : (T : List Event) (P : List ℕ) → filter (is_next_below T P 0) (before (length T)) ≡ []
next_first T P = none_kept (is_next_below T P 0) (before (length T)) (λ x. none_by T P x (slice_get T x))

all_by : (T : List Event) (P : List ℕ) (n x : ℕ) (o : Option Event) → ((v : Event) → o ≡ Some v → v.thread < n) → next_below_by T P n x o ≡ next_by T P x o
all_by T P n x None within = refl
all_by T P n x (Some v) within = rw (lt-ltb v.thread n (within v refl)) refl

thread_within : (r : Recording) → IsWellFormed r → (e : ℕ) (v : Event) → slice_get r.events e ≡ Some v → v.thread < length r.threads
thread_within r well e v at =
    let named : IsNamed r (get_or r.events e v) = All-get_or (IsNamed r) r.events e v (slice_get_within r.events e v at) well.named in
    (subst (IsNamed r) (get_or_from_slice_get r.events e v v at) named).0

-- after the last one there are all
pub next_all : (r : Recording) (P : List ℕ) → IsWellFormed r → filter (is_next_below r.events P (length r.threads)) (before (length r.events)) ≡ filter (is_next r.events P) (before (length r.events))
next_all r P is = filter_same (is_next_below r.events P (length r.threads)) (is_next r.events P) 0 (length r.events) (λ x _ _. all_by r.events P (length r.threads) x (slice_get r.events x) (thread_within r is x))
