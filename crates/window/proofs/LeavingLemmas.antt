-- The acquires that take what a trace holds.
use Rattle.std.proofs.Common.{◌≡◌, ◌≢◌, ℕ, zero, suc, ◌+◌, ◌<◌, ◌≤◌, ◌==◌, ◌&&◌, ◌||◌, Bool, true, false, cond, List, [], ◌∷◌, ◌++◌, length, replicate, count_by, get_or, slice_get, Some, All, refl, sym, ap, ◌∙◌, subst, arith, add-one, append-nil, eqb-true, eq-eqb, ne_eqb, inl, inr}
use Rattle.std.specs.List.{list_any, flat_map}
use Rattle.std.proofs.lemmas.Bool.{cases_Bool, cases_lt, cases_eq, and_parts, false≢true}
use Rattle.std.proofs.lemmas.Grind.{flat_map-append}
use Rattle.std.proofs.lemmas.List.{take_all}
use Rattle.std.proofs.lemmas.List.Elements.{All-nil, All-append, All-replicate}
use Rattle.std.proofs.lemmas.List.Sums.{sum_by-append, sum_by-cons}
use Rattle.std.proofs.lemmas.Option.{slice_get-get_or, slice_get_within, get_or_from_slice_get}
use Rattle.rapid_text.specs.Operations.{is_acquire, is_release}
use Rattle.rapid_text.specs.Recording.{Recording, IsNamed, IsNamedOp, IsWellFormed}
use Rattle.rapid_text.specs.declared.event.Event.{Event}
use Rattle.rapid_text.specs.declared.event.Op.TheVariants.{Acquire}
use Rattle.trace_rules.specs.Rules.{acquire_count, release_count, hold_count}
use Rattle.trace_rules.proofs.CallerLemmas.{acquire-from_test}
use Rattle.trace_rules.proofs.Counts.{list_any-from_count}
use Rattle.event_index.specs.Lookups.{before}
use Rattle.event_index.proofs.CallerLemmas.{before_more}
use Rattle.window.specs.Made.{does}
use Rattle.window.specs.Streams.{IsOf}
use Rattle.window.specs.Tables.{AreHeld, all_takes, takes_of}
use Rattle.window.specs.declared.holding.Held.{Held}

-- Events that are made for each number.
module _ (f : ℕ → List Event) where
  abbrev all : ℕ → List Event
  all n = flat_map f (before n)

  pub flat_more : (n : ℕ) → all n ++ f n ≡ all (n + 1)
  flat_more n = sym (ap (flat_map f) (before_more n) ∙ flat_map-append f (before n) (n ∷ []) ∙ ap (λ y. all n ++ y) (append-nil (f n)))

  flat_all : (P : Event → Type 0) (n : ℕ) → ((i : ℕ) → i < n → All P (f i)) → All P (all n)
  flat_all P zero each = All-nil P
  flat_all P (suc n) each =
      subst (λ (i : ℕ). All P (all i)) (add-one n)
      (subst (All P) (flat_more n) (All-append P (all n) (f n) (flat_all P n (λ i lt. each i (omega (arith, lt)))) (each n (omega arith))))

  count_more : (p : Event → Bool) (n : ℕ) → count_by p (all (n + 1)) ≡ count_by p (all n) + count_by p (f n)
  count_more p n = ap (count_by p) (sym (flat_more n)) ∙ sum_by-append (λ v. cond (p v) 1 0) (all n) (f n)

  flat_zero : (p : Event → Bool) (n : ℕ) → ((i : ℕ) → i < n → count_by p (f i) ≡ 0) → count_by p (all n) ≡ 0
  flat_zero p zero each = refl
  flat_zero p (suc n) each =
      subst (λ (i : ℕ). count_by p (all i) ≡ 0) (add-one n) (omega (arith, count_more p n, flat_zero p n (λ i lt. each i (omega (arith, lt))), each n (omega arith)))

  -- where one number alone counts
  flat_one : (p : Event → Bool) (n l : ℕ) → l < n → ((i : ℕ) → i ≢ l → count_by p (f i) ≡ 0) → count_by p (all n) ≡ count_by p (f l)
  flat_one p zero l lt each = absurd (omega (arith, lt))
  flat_one p (suc n) l lt each =
      subst (λ (i : ℕ). count_by p (all i) ≡ count_by p (f l)) (add-one n)
      (elim (cases_eq l n) [
        | inl same ↦
            omega (arith, count_more p n, flat_zero p n (λ i less. each i (λ is. absurd (omega (arith, less, is, same)))), ap (λ i. count_by p (f i)) same)
        | inr other ↦ omega (arith, count_more p n, flat_one p n l (omega (arith, lt, other)) each, each n (λ is. other (sym is)))
      ])

count_replicate : (p : Event → Bool) (n : ℕ) (e : Event) → count_by p (replicate n e) ≡ cond (p e) n 0
count_replicate p n e = go (p e) refl n
  where
    go : (b : Bool) → p e ≡ b → (n : ℕ) → count_by p (replicate n e) ≡ cond b n 0
    go true is zero = refl
    go false is zero = refl
    go true is (suc n) = omega (arith, sum_by-cons (λ v. cond (p v) 1 0) e (replicate n e), ap (λ b. cond {A = ℕ} b 1 0) is, go true is n)
    go false is (suc n) = omega (arith, sum_by-cons (λ v. cond (p v) 1 0) e (replicate n e), ap (λ b. cond {A = ℕ} b 1 0) is, go false is n)

there : (p : Event → Bool) (T : List Event) → list_any p T ≡ true → (v : Event) × (i : ℕ) × (slice_get T i ≡ Some v) × (p v ≡ true)
there p [] h = absurd (false≢true h)
there p (x ∷ T) h =
    elim (cases_Bool (p x)) [
      | inl found ↦ (x, 0, refl, found)
      | inr none ↦ let (v, i, at, is) = there p T (sym (ap (λ b. b || list_any p T) none) ∙ h) in (v, suc i, at, is)
    ]

-- The trace, and what is held after it.
module _ (r : Recording) (formed : IsWellFormed r) (held : List Held) (is_held : AreHeld r.events (length r.events) (length r.locks) held) where
  abbrev T : List Event
  T = r.events

  abbrev m : ℕ
  m = length r.threads

  abbrev nobody : Held
  nobody = record { thread = 0; depth = 0 }

  abbrev H : List Event
  H = all_takes held (length r.locks)

  named : (i : ℕ) (v : Event) → slice_get T i ≡ Some v → IsNamed r v
  named i v at = subst (IsNamed r) (get_or_from_slice_get T i v v at) (formed.named i v (slice_get_within T i v at))

  -- a thread with an event is the recording's
  thread_low : (t : ℕ) → list_any (λ e. e.thread == t) T ≡ true → t < m
  thread_low t h = let (v, i, at, is) = there (λ e. e.thread == t) T h in subst (λ (n : ℕ). n < m) (eqb-true v.thread t is) (named i v at).0

  abbrev hold : ℕ → Held
  hold l = get_or held l nobody

  hold_is : (l : ℕ) → l < length r.locks → (t : ℕ) → hold_count T t l ≡ cond (t == (hold l).thread) (hold l).depth 0
  hold_is l lt t =
      subst (λ (es : List Event). hold_count es t l ≡ cond (t == (hold l).thread) (hold l).depth 0) (take_all (length T) T (omega arith))
      (is_held.at l (hold l) (slice_get-get_or held l nobody (omega (arith, lt, is_held.len))) t)

  -- who holds a lock has an event
  holder_seen : (l : ℕ) → l < length r.locks → 0 < (hold l).depth → list_any (λ e. e.thread == (hold l).thread) T ≡ true
  holder_seen l lt some =
      let t = (hold l).thread in
      let count : hold_count T t l ≡ (hold l).depth = hold_is l lt t ∙ ap (λ b. cond {A = ℕ} b (hold l).depth 0) (eq-eqb t t refl) in
      list_any-from_count (λ e. e.thread == t && is_acquire l e.op) (λ e. e.thread == t) T
      (λ v h. (and_parts (v.thread == t) (is_acquire l v.op) h).0) (omega (arith, count, some))

  and_none : (a b : Bool) → b ≡ false → (a && b) ≡ false
  and_none true b h = h
  and_none false b h = refl

  take_test : (t l i : ℕ) → count_by (λ e. e.thread == t && is_acquire l e.op) (takes_of (hold i) i) ≡ cond ((hold i).thread == t && i == l) (hold i).depth 0
  take_test t l i = count_replicate (λ e. e.thread == t && is_acquire l e.op) (hold i).depth (does (hold i).thread (Acquire i))

  H_holds : (t l : ℕ) → hold_count T t l ≡ acquire_count H t l
  H_holds t l =
      let p : Event → Bool = λ e. e.thread == t && is_acquire l e.op in
      let other = λ (i : ℕ) (is : i ≢ l).
      take_test t l i ∙ ap (λ b. cond {A = ℕ} b (hold i).depth 0) (and_none ((hold i).thread == t) (i == l) (ne_eqb i l is)) in
      elim (cases_lt l (length r.locks)) [
        | inl low ↦
            hold_is l low t ∙ same_depth ((hold l).thread == t) (t == (hold l).thread) (l == l) (hold l).depth (eq-eqb l l refl) (turned (hold l).thread t)
            ∙ sym (take_test t l l) ∙ sym (flat_one (λ i. takes_of (hold i) i) p (length r.locks) l low other)
        | inr high ↦
            let none : acquire_count T t l ≡ 0 = untaken t l high in
            omega (arith, none, flat_zero (λ i. takes_of (hold i) i) p (length r.locks) (λ i lt. other i (λ same. absurd (omega (arith, lt, high, same)))))
      ]
    where
      turned : (a b : ℕ) → (a == b) ≡ (b == a)
      turned a b =
          elim (cases_eq a b) [
            | inl same ↦ eq-eqb a b same ∙ sym (eq-eqb b a (sym same))
            | inr other ↦ ne_eqb a b other ∙ sym (ne_eqb b a (λ is. other (sym is)))
          ]

      same_depth : (a b c : Bool) (d : ℕ) → c ≡ true → a ≡ b → cond b d 0 ≡ cond (a && c) d 0
      same_depth true b c d is same = ap (λ z. cond {A = ℕ} z d 0) (sym same ∙ sym is)
      same_depth false b c d is same = ap (λ z. cond {A = ℕ} z d 0) (sym same)

      untaken : (t l : ℕ) → length r.locks ≤ l → acquire_count T t l ≡ 0
      untaken t l high =
          elim (cases_lt 0 (acquire_count T t l)) [
            | inl some ↦
                let p : Event → Bool = λ e. e.thread == t && is_acquire l e.op in
                let (v, i, at, is) = there p T (list_any-from_count p p T (λ x h. h) some) in
                let low : l < length r.locks = subst (IsNamedOp r) (acquire-from_test l v.op (and_parts (v.thread == t) (is_acquire l v.op) is).1) (named i v at).1 in
                absurd (omega (arith, low, high))
            | inr none ↦ omega (arith, none)
          ]

  H_frees : (t l : ℕ) → release_count H t l ≡ 0
  H_frees t l =
      let p : Event → Bool = λ e. e.thread == t && is_release l e.op in
      flat_zero (λ i. takes_of (hold i) i) p (length r.locks) (λ i lt.
      count_replicate p (hold i).depth (does (hold i).thread (Acquire i)) ∙ ap (λ b. cond {A = ℕ} b (hold i).depth 0) (and_none ((hold i).thread == t) false refl))

  pub holds-takes : (t l : ℕ) → hold_count T t l ≡ hold_count H t l
  holds-takes t l = omega (arith, H_holds t l, H_frees t l)

  each_take : (Q : Event → Type 0) → ((l : ℕ) → l < length r.locks → 0 < (hold l).depth → Q (does (hold l).thread (Acquire l))) → All Q H
  each_take Q each =
      flat_all (λ l. takes_of (hold l) l) Q (length r.locks) (λ l lt. elim (cases_lt 0 (hold l).depth) [
        | inl some ↦ All-replicate Q (hold l).depth (does (hold l).thread (Acquire l)) (each l lt some)
        | inr zero_deep ↦
            let z : 0 ≡ (hold l).depth = omega (arith, zero_deep) in
            subst (λ (n : ℕ). All Q (replicate n (does (hold l).thread (Acquire l)))) z (All-nil Q)
      ])

  pub of-takes : All (IsOf r) H
  of-takes = each_take (IsOf r) (λ l lt some. (thread_low (hold l).thread (holder_seen l lt some), lt))

  pub acquires-takes : All (λ (e : Event). (l : ℕ) × (e.op ≡ Acquire l)) H
  acquires-takes = each_take (λ (e : Event). (l : ℕ) × (e.op ≡ Acquire l)) (λ l lt some. (l, refl))
