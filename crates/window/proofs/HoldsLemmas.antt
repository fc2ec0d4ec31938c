-- The holds and the readers of the window of a trace.
use Rattle.std.proofs.Common.{◌≡◌, ◌≢◌, ◌⊎◌, ℕ, zero, suc, ◌+◌, ◌-◌, ◌*◌, ◌<◌, ◌≤◌, ◌==◌, ◌&&◌, ◌||◌, Bool, true, false, not, cond, nat_lt, List, [], ◌∷◌, ◌++◌, length, take, drop, replicate, count_by, get_or, Contains, Some, refl, sym, ap, ◌∙◌, subst, arith, add-one, eq-eqb, inl, inr, Option, None}
use Rattle.std.specs.List.{slice_get, list_any, flat_map}
use Rattle.std.proofs.lemmas.Bool.{cases_lt, cases_eq, cases_Bool, and_parts, and_from, eqb-true, ne_eqb, lt-ltb, le-ltb, ltb-true, ltb-false, false≢true}
use Rattle.std.proofs.lemmas.Grind.{flat_map-append}
use Rattle.std.proofs.lemmas.List.{length-take-le, length-drop, append-nil}
use Rattle.std.proofs.lemmas.List.Elements.{filter_passes}
use Rattle.std.proofs.lemmas.List.Folds.{sum_by-replicate, Any-from_list_any, list_any_at}
use Rattle.std.proofs.lemmas.List.FromFn.{length-range_with_len, get_or-range_with_len}
use Rattle.std.proofs.lemmas.List.Sums.{sum_by-append, sum_by-cons}
use Rattle.std.proofs.lemmas.Option.{slice_get-get_or, get_or_from_slice_get}
use Rattle.rapid_text.specs.Operations.{is_acquire, is_release, is_fork}
use Rattle.rapid_text.specs.declared.event.Event.{Event}
use Rattle.rapid_text.specs.declared.event.Op.TheVariants.{Fork}
use Rattle.trace_rules.specs.Rules.{acquire_count, release_count, hold_count, IsDisciplined}
use Rattle.trace_rules.proofs.CallerLemmas.{one_holder, acquire-from_test, release-from_test, fork-from_test}
use Rattle.event_index.specs.Lookups.{before}
use Rattle.event_index.proofs.CallerLemmas.{find_none, find-passes, before_more, count_more, op_event, op_here}
use Rattle.schedule.proofs.CallerLemmas.{Contains-filter}
use Rattle.witness_search.proofs.KeptLemmas.{event_there}
use Rattle.window.specs.Made.{part_of, IsOff, IsHold, AreHolds, AreOthers, AreReaders, IsBounded, is_on, touch_count, serving, owner, holds_of, holds_at, readers_of, waiting, readers_at}
use Rattle.window.specs.Laws.{WindowOfIsWindow}
use Rattle.window.proofs.ChainLemmas.{never}
use Rattle.window.proofs.PlaceLemmas.{get_drop, get_take}
use Rattle.window.proofs.MadeLemmas.{made_law}

or_from_left : (a b : Bool) → a ≡ true → (a || b) ≡ true
or_from_left a b h = ap (λ c. c || b) h

-- a test that passes in one piece alone counts there
module _ {X : Type 0} (p : X → Bool) (f : ℕ → List X) (t : ℕ) (others : (i : ℕ) → i ≢ t → count_by p (f i) ≡ 0) where
  one_piece : (j : ℕ) → count_by p (flat_map f (before j)) ≡ cond (nat_lt t j) (count_by p (f t)) 0
  one_piece zero = sym (ap (λ b. cond b (count_by p (f t)) 0) (le-ltb t 0 (omega arith)))
  one_piece (suc j) =
      let more : flat_map f (before (j + 1)) ≡ flat_map f (before j) ++ f j =
      ap (flat_map f) (before_more j) ∙ flat_map-append f (before j) (j ∷ []) ∙ ap (λ l. flat_map f (before j) ++ l) (append-nil (f j)) in
      let sum : count_by p (flat_map f (before (j + 1))) ≡ count_by p (flat_map f (before j)) + count_by p (f j) =
      ap (count_by p) more ∙ sum_by-append (λ y. cond {A = ℕ} (p y) 1 0) (flat_map f (before j)) (f j) in
      let rest = one_piece j in
      subst (λ (i : ℕ). count_by p (flat_map f (before i)) ≡ cond (nat_lt t i) (count_by p (f t)) 0) (add-one j)
      (elim (cases_lt t j) [
        | inl low ↦
            let now : cond (nat_lt t j) (count_by p (f t)) 0 ≡ count_by p (f t) = ap (λ b. cond b (count_by p (f t)) 0) (lt-ltb t j low) in
            let next : cond (nat_lt t (j + 1)) (count_by p (f t)) 0 ≡ count_by p (f t) = ap (λ b. cond b (count_by p (f t)) 0) (lt-ltb t (j + 1) (omega (arith, low))) in
            let none : count_by p (f j) ≡ 0 = others j (λ same. absurd (omega (arith, same, low))) in
            omega (arith, sum, rest, now, next, none)
        | inr le ↦
            let now : cond (nat_lt t j) (count_by p (f t)) 0 ≡ 0 = ap (λ b. cond b (count_by p (f t)) 0) (le-ltb t j le) in
            elim (cases_eq j t) [
              | inl same ↦
                  let next : cond (nat_lt t (j + 1)) (count_by p (f t)) 0 ≡ count_by p (f t) = ap (λ b. cond b (count_by p (f t)) 0) (lt-ltb t (j + 1) (omega (arith, same))) in
                  let here : count_by p (f j) ≡ count_by p (f t) = ap (λ i. count_by p (f i)) same in
                  omega (arith, sum, rest, now, next, here)
              | inr other ↦
                  let next : cond (nat_lt t (j + 1)) (count_by p (f t)) 0 ≡ 0 = ap (λ b. cond b (count_by p (f t)) 0) (le-ltb t (j + 1) (omega (arith, le, other))) in
                  omega (arith, sum, rest, now, next, others j other)
            ]
      ])

both_none : (b : Bool) → cond {A = ℕ} b 0 0 ≡ 0
both_none true = refl
both_none false = refl

or_second : (a b : Bool) → b ≡ true → (a || b) ≡ true
or_second true b h = refl
or_second false b h = h

-- what passes counts, and a weaker test counts more
pub any_counts : (p : Event → Bool) (es : List Event) → list_any p es ≡ true → 1 ≤ count_by p es
any_counts p [] h = absurd (false≢true h)
any_counts p (e ∷ es) h =
    let sum = sum_by-cons (λ v. cond {A = ℕ} (p v) 1 0) e es in
    elim (cases_Bool (p e)) [
      | inl passes ↦
          let here : cond {A = ℕ} (p e) 1 0 ≡ 1 = ap (λ b. cond {A = ℕ} b 1 0) passes in
          omega (arith, sum, here)
      | inr fails ↦ omega (arith, sum, any_counts p es (sym (ap (λ b. b || list_any p es) fails) ∙ h))
    ]

counts_any : (p : Event → Bool) (es : List Event) → 0 < count_by p es → list_any p es ≡ true
counts_any p [] some = absurd (omega (arith, some))
counts_any p (e ∷ es) some =
    let sum = sum_by-cons (λ v. cond {A = ℕ} (p v) 1 0) e es in
    elim (cases_Bool (p e)) [
      | inl passes ↦ ap (λ b. b || list_any p es) passes
      | inr fails ↦
          let here : cond {A = ℕ} (p e) 1 0 ≡ 0 = ap (λ b. cond {A = ℕ} b 1 0) fails in
          ap (λ b. b || list_any p es) fails ∙ counts_any p es (omega (arith, some, sum, here))
    ]

weaker_one : (b c : Bool) → (b ≡ true → c ≡ true) → cond {A = ℕ} b 1 0 ≤ cond {A = ℕ} c 1 0
weaker_one true true h = omega arith
weaker_one true false h = absurd (false≢true (h refl))
weaker_one false true h = omega arith
weaker_one false false h = omega arith

counts_more : (q r : Event → Bool) → ((e : Event) → q e ≡ true → r e ≡ true) → (es : List Event) → count_by q es ≤ count_by r es
counts_more q r weaker [] = omega arith
counts_more q r weaker (e ∷ es) =
    omega (
      arith,
      counts_more q r weaker es,
      sum_by-cons (λ d. cond {A = ℕ} (q d) 1 0) e es,
      sum_by-cons (λ d. cond {A = ℕ} (r d) 1 0) e es,
      weaker_one (q e) (r e) (weaker e),
    )

-- how often a hold is among those of one thread and lock
module _ (t l : ℕ) where
  abbrev is_it : ℕ × ℕ → Bool
  is_it h = h.0 == t && h.1 == l

  of_other : (u i d : ℕ) → u ≢ t → count_by is_it (replicate d (u, i)) ≡ 0
  of_other u i d other =
      let fails : cond {A = ℕ} (u == t && i == l) 1 0 ≡ 0 = ap (λ b. cond {A = ℕ} (b && i == l) 1 0) (ne_eqb u t other) in
      sum_by-replicate (λ (h : ℕ × ℕ). cond {A = ℕ} (h.0 == t && h.1 == l) 1 0) d (u, i) ∙ ap (λ y. d * y) fails ∙ omega arith

  of_lock : (u i d : ℕ) → i ≢ l → count_by is_it (replicate d (u, i)) ≡ 0
  of_lock u i d other =
      let fails : cond {A = ℕ} (u == t && i == l) 1 0 ≡ 0 = ap (λ b. cond {A = ℕ} (u == t && b) 1 0) (ne_eqb i l other) ∙ never (u == t) in
      sum_by-replicate (λ (h : ℕ × ℕ). cond {A = ℕ} (h.0 == t && h.1 == l) 1 0) d (u, i) ∙ ap (λ y. d * y) fails ∙ omega arith

  of_own : (d : ℕ) → count_by is_it (replicate d (t, l)) ≡ d
  of_own d =
      let passes : cond {A = ℕ} (t == t && l == l) 1 0 ≡ 1 = ap (λ b. cond {A = ℕ} b 1 0) (and_from (t == t) (l == l) (eq-eqb t t refl) (eq-eqb l l refl)) in
      sum_by-replicate (λ (h : ℕ × ℕ). cond {A = ℕ} (h.0 == t && h.1 == l) 1 0) d (t, l) ∙ ap (λ y. d * y) passes ∙ omega arith

  of_lock_by : (T : List Event) (k m : ℕ) (o : Option ℕ) (i : ℕ) → i ≢ l → count_by is_it (holds_of T k m o i) ≡ 0
  of_lock_by T k m None i other = refl
  of_lock_by T k m (Some u) i other = of_lock u i (serving T k m u i) other

pub long_part : (T : List Event) (k m : ℕ) → k ≤ m → m ≤ length T → length (part_of T k m) ≡ m - k
long_part T k m begins within = length-take-le (m - k) (drop k T) (omega (arith, begins, within, length-drop k T))

module _ (T : List Event) (threads locks : ℕ) (bounds : IsBounded T threads locks) (k : ℕ) where
  -- no acquire of other names
  none_taken : (t l : ℕ) → (threads ≤ t) ⊎ (locks ≤ l) → (j : ℕ) → j ≤ length T → acquire_count (take j T) t l ≡ 0
  none_taken t l out zero le = refl
  none_taken t l out (suc j) le =
      let (v, at) = event_there T j (omega arith) in
      let rest = none_taken t l out j (omega arith) in
      let one = count_more (λ w. w.thread == t && is_acquire l w.op) T j v at in
      let fails : (v.thread == t && is_acquire l v.op) ≡ false =
      elim (cases_Bool (v.thread == t && is_acquire l v.op)) [
        | inr no_one ↦ no_one
        | inl passes ↦
            let parts = and_parts (v.thread == t) (is_acquire l v.op) passes in
            let here : v.thread ≡ t = eqb-true v.thread t parts.0 in
            elim out [
              | inl high ↦ absurd (omega (arith, here, high, bounds.of_threads j v at))
              | inr high ↦ absurd (omega (arith, high, bounds.of_locks j l v at (acquire-from_test l v.op parts.1)))
            ]
      ] in
      subst (λ (i : ℕ). acquire_count (take i T) t l ≡ 0) (add-one j)
      (one ∙ ap (λ b. acquire_count (take j T) t l + cond b 1 0) fails ∙ omega (arith, rest))

  -- The readers.
  module _ (m : ℕ) (begins : k ≤ m) (within : m ≤ length T) where
    long_L : length (part_of T k m) ≡ m - k
    long_L = long_part T k m begins within

    part_get : (e : ℕ) (v : Event) → k ≤ e → e < m → slice_get T e ≡ Some v → get_or (part_of T k m) (e - k) v ≡ v
    part_get e v low high at =
        let spot : k + (e - k) ≡ e = omega arith in
        get_or_from_slice_get (part_of T k m) (e - k) v v
        (get_take (m - k) (drop k T) (e - k) (omega (arith, low, high)) ∙ get_drop k T (e - k) ∙ ap (slice_get T) spot ∙ at)

    -- what passes from k to m
    part_any : (test : Event → Bool) (e : ℕ) (v : Event) → k ≤ e → e < m → slice_get T e ≡ Some v → test v ≡ true → list_any test (part_of T k m) ≡ true
    part_any test e v low high at passes =
        list_any_at test (part_of T k m) (e - k) v (omega (arith, low, high, long_L)) (ap test (part_get e v low high at) ∙ passes)

    any_part : (test : Event → Bool) → list_any test (part_of T k m) ≡ true → (f : ℕ) × (v : Event) × (k ≤ f) × (f < m) × (slice_get T f ≡ Some v) × (test v ≡ true)
    any_part test so =
        let (i, v, lt, at, passes) = Any-from_list_any test (part_of T k m) so in
        let fits : i < m - k = omega (arith, lt, long_L) in
        let found : slice_get T (k + i) ≡ Some v =
        sym (get_drop k T i) ∙ sym (get_take (m - k) (drop k T) i fits) ∙ slice_get-get_or (part_of T k m) i v lt ∙ ap Some at in
        (k + i, v, omega arith, omega (arith, fits, begins), found, passes)

    -- a lock that is not touched
    untouched : (l : ℕ) → touch_count T k m l ≡ 0 → IsOff T k m l
    untouched l none e v low high at =
        let fails : is_on l v ≡ true → ⊥ =
        λ passes. let some = any_counts (is_on l) (part_of T k m) (part_any (is_on l) e v low high at passes) in
        absurd (omega (arith, some, none)) in (
          λ takes. fails (ap (λ o. is_acquire l o || is_release l o) takes ∙ or_from_left (l == l) false (eq-eqb l l refl)),
          λ frees. fails (ap (λ o. is_acquire l o || is_release l o) frees ∙ eq-eqb l l refl),
        )

    -- what serves is enough
    serves : (t l : ℕ) → IsHold T k m t l (serving T k m t l)
    serves t l =
        let r : ℕ = release_count (part_of T k m) t l in
        let h : ℕ = hold_count (take k T) t l in
        let j : ℕ = touch_count T k m l in
        let few : r ≤ j =
        counts_more (λ v. v.thread == t && is_release l v.op) (is_on l) (λ v so. or_second (is_acquire l v.op) (is_release l v.op) (and_parts (v.thread == t) (is_release l v.op) so).1) (part_of T k m) in
        elim (cases_lt (2 * j) h) [
          | inr le ↦
              let all : serving T k m t l ≡ h = ap (λ b. cond b (2 * j) h) (le-ltb (2 * j) h le) in
              record { most = omega (arith, all); enough = inl all }
          | inl lt ↦
              let is : serving T k m t l ≡ 2 * j = ap (λ b. cond b (2 * j) h) (lt-ltb (2 * j) h lt) in
              elim (cases_lt 0 j) [
                | inl some ↦ record { most = omega (arith, is, lt); enough = inr (inl (omega (arith, is, few, some))) }
                | inr none ↦ record { most = omega (arith, is, lt); enough = inr (inr (untouched l (omega (arith, none)))) }
              ]
        ]

    -- a lock that is not touched has no holds
    none_serve : (t l : ℕ) → IsOff T k m l → serving T k m t l ≡ 0
    none_serve t l off =
        let h : ℕ = hold_count (take k T) t l in
        let j : ℕ = touch_count T k m l in
        let none : j ≡ 0 =
        elim (cases_lt 0 j) [
          | inr le ↦ omega (arith, le)
          | inl some ↦
              let (f, v, from, to, found, passes) = any_part (is_on l) (counts_any (is_on l) (part_of T k m) some) in
              let not = off f v from to found in
              elim (cases_Bool (is_acquire l v.op)) [
                | inl takes ↦ absurd (not.0 (acquire-from_test l v.op takes))
                | inr no_take ↦ absurd (not.1 (release-from_test l v.op (sym (ap (λ b. b || is_release l v.op) no_take) ∙ passes)))
              ]
        ] in
        elim (cases_lt (2 * j) h) [
          | inl lt ↦
              let is : serving T k m t l ≡ 2 * j = ap (λ b. cond b (2 * j) h) (lt-ltb (2 * j) h lt) in
              omega (arith, is, none)
          | inr le ↦
              let is : serving T k m t l ≡ h = ap (λ b. cond b (2 * j) h) (le-ltb (2 * j) h le) in
              omega (arith, is, le, none)
        ]

    -- what nobody holds
    not_held : (t l : ℕ) → hold_count (take k T) t l ≡ 0 → (n : ℕ) → n ≡ 0 → IsHold T k m t l n
    not_held t l none n is = record { most = omega (arith, is); enough = inl (is ∙ sym none) }

    pub none_past : (t l : ℕ) → (threads ≤ t) ⊎ (locks ≤ l) → hold_count (take k T) t l ≡ 0
    none_past t l out =
        let none : acquire_count (take k T) t l ≡ 0 = none_taken t l out k (omega (arith, begins, within)) in
        omega (arith, none)

    by_owner : IsDisciplined T → (t l : ℕ) (o : Option ℕ) → owner T k threads l ≡ o → IsHold T k m t l (count_by (λ h. h.0 == t && h.1 == l) (holds_of T k m o l))
    by_owner rules t l None is =
        let none : hold_count (take k T) t l ≡ 0 =
        elim (cases_lt t threads) [
          | inr high ↦ none_past t l (inl high)
          | inl low ↦
              let fails = find_none (λ u. nat_lt 0 (hold_count (take k T) u l)) 0 threads is t (omega arith) (omega (arith, low)) in
              let le = ltb-false 0 (hold_count (take k T) t l) fails in
              omega (arith, le)
        ] in
        not_held t l none 0 refl
    by_owner rules t l (Some u) is =
        elim (cases_eq u t) [
          | inl same ↦
              let own : count_by (λ h. h.0 == t && h.1 == l) (replicate (serving T k m u l) (u, l)) ≡ serving T k m t l =
              ap (λ z. count_by (λ (h : ℕ × ℕ). h.0 == t && h.1 == l) (replicate (serving T k m z l) (z, l))) same ∙ of_own t l (serving T k m t l) in
              subst (IsHold T k m t l) (sym own) (serves t l)
          | inr other ↦
              let held : 0 < hold_count (take k T) u l =
              ltb-true 0 (hold_count (take k T) u l) (find-passes (λ z. nat_lt 0 (hold_count (take k T) z l)) (before threads) u is) in
              let none : hold_count (take k T) t l ≡ 0 =
              elim (cases_lt 0 (hold_count (take k T) t l)) [
                | inl also ↦ absurd (other (one_holder T rules k u l t held also))
                | inr le ↦ omega (arith, le)
              ] in
              not_held t l none (count_by (λ h. h.0 == t && h.1 == l) (replicate (serving T k m u l) (u, l))) (of_other t l u l (serving T k m u l) other)
        ]

    pub holds_are : IsDisciplined T → AreHolds T k m (holds_at T k m threads locks)
    holds_are rules t l =
        let f : ℕ → List (ℕ × ℕ) = λ i. holds_of T k m (owner T k threads i) i in
        let all : count_by (λ h. h.0 == t && h.1 == l) (flat_map f (before locks)) ≡ cond (nat_lt l locks) (count_by (λ h. h.0 == t && h.1 == l) (f l)) 0 =
        one_piece (λ h. h.0 == t && h.1 == l) f l (λ i other. of_lock_by t l T k m (owner T k threads i) i other) locks in
        elim (cases_lt l locks) [
          | inr high ↦
              not_held t l (none_past t l (inr high)) (count_by (λ h. h.0 == t && h.1 == l) (flat_map f (before locks)))
              (all ∙ ap (λ b. cond b (count_by (λ (h : ℕ × ℕ). h.0 == t && h.1 == l) (f l)) 0) (le-ltb l locks high))
          | inl low ↦
              subst (IsHold T k m t l) (sym (all ∙ ap (λ b. cond b (count_by (λ (h : ℕ × ℕ). h.0 == t && h.1 == l) (f l)) 0) (lt-ltb l locks low)))
              (by_owner rules t l (owner T k threads l) refl)
        ]

    -- and none of the holds is of it
    none_of_lock : (t l : ℕ) (o : Option ℕ) → IsOff T k m l → count_by (is_it t l) (holds_of T k m o l) ≡ 0
    none_of_lock t l None off = refl
    none_of_lock t l (Some u) off =
        let none : holds_of T k m (Some u) l ≡ [] = ap (λ j. replicate j (u, l)) (none_serve u l off) in
        ap (count_by (is_it t l)) none

    pub holds_others : (lock : ℕ) → IsOff T k m lock → AreOthers lock (holds_at T k m threads locks)
    holds_others lock off t =
        let f : ℕ → List (ℕ × ℕ) = λ i. holds_of T k m (owner T k threads i) i in
        let all : count_by (is_it t lock) (flat_map f (before locks)) ≡ cond (nat_lt lock locks) (count_by (is_it t lock) (f lock)) 0 =
        one_piece (is_it t lock) f lock (λ i other. of_lock_by t lock T k m (owner T k threads i) i other) locks in
        all ∙ ap (λ j. cond (nat_lt lock locks) j 0) (none_of_lock t lock (owner T k threads lock) off) ∙ both_none (nat_lt lock locks)

    pub readers_are : (holds : List (ℕ × ℕ)) → AreReaders T k m holds (readers_of T k m threads)
    readers_are holds = record {
      waits = λ e v low high at.
          let t : ℕ = v.thread in
          elim (cases_Bool (list_any (λ w. is_fork t w.op) (part_of T k m))) [
            | inl forks ↦
                let (f, w, from, to, found, passes) = any_part (λ w. is_fork t w.op) forks in
                inr (inl (f, from, to, op_here T f w found ∙ ap Some (fork-from_test t w.op passes)))
            | inr none ↦
                let p : ℕ → Bool = λ u. list_any (λ w. w.thread == u) (part_of T k m) && not (list_any (λ w. is_fork u w.op) (part_of T k m)) in
                let lt : t < threads = bounds.of_threads e v at in
                let has : Contains (before threads) t = (t, omega (arith, lt, length-range_with_len 0 threads), get_or-range_with_len 0 threads t t lt ∙ omega arith) in
                let event : list_any (λ w. w.thread == t) (part_of T k m) ≡ true = part_any (λ w. w.thread == t) e v low high at (eq-eqb v.thread t refl) in
                inr (inr (Contains-filter p (before threads) t has
                (and_from (list_any (λ w. w.thread == t) (part_of T k m)) (not (list_any (λ w. is_fork t w.op) (part_of T k m))) event (ap not none))))
          ];
      unforked = λ t f (i, lt, is) low high forks.
          let p : ℕ → Bool = λ u. list_any (λ w. w.thread == u) (part_of T k m) && not (list_any (λ w. is_fork u w.op) (part_of T k m)) in
          let passes : p t ≡ true = ap p (sym is) ∙ filter_passes p (before threads) i t lt in
          let parts = and_parts (list_any (λ w. w.thread == t) (part_of T k m)) (not (list_any (λ w. is_fork t w.op) (part_of T k m))) passes in
          let g = op_event T f (Fork t) forks in
          let any : list_any (λ w. is_fork t w.op) (part_of T k m) ≡ true = part_any (λ w. is_fork t w.op) f g.0 low high g.1 (ap (is_fork t) g.2 ∙ eq-eqb t t refl) in
          absurd (false≢true (sym (ap not any) ∙ parts.1));
    }

-- none wait where nothing is held
waiting_are : (T : List Event) (k m : ℕ) (holds : List (ℕ × ℕ)) (readers : List ℕ) → AreReaders T k m holds readers → AreReaders T k m holds (waiting holds readers)
waiting_are T k m [] readers are = record { waits = λ e v low high at. inl refl; unforked = λ t f (i, lt, is). absurd (omega arith) }
waiting_are T k m (h ∷ holds) readers are = are

pub of_law : WindowOfIsWindow
of_law T k m x lock threads locks rules begins within bounds unused =
    made_law T k m x lock (holds_at T k m threads locks) (readers_at T k m threads locks) rules begins within
    (holds_are T threads locks bounds k m begins within rules)
    (holds_others T threads locks bounds k m begins within lock unused.off)
    (waiting_are T k m (holds_at T k m threads locks) (readers_of T k m threads) (readers_are T threads locks bounds k m begins within (holds_at T k m threads locks)))
    unused
