-- Who holds a lock after a correct reordering: only the thread that took it last can.
use Rattle.std.proofs.Common.{◌≡◌, ◌≢◌, ℕ, zero, suc, ◌+◌, ◌<◌, ◌≤◌, ◌==◌, ◌&&◌, ◌⊎◌, Bool, true, false, not, cond, nat_lt, List, [], ◌∷◌, ◌++◌, length, take, map, reverse, get_or, find, count_by, Contains, Option, Some, None, slice_get, option_map, option_and_then, sym, refl, ap, ◌∙◌, subst, arith, inl, inr}
use Rattle.std.proofs.lemmas.Bool.{cases_Bool, cases_eq, eq-eqb, ne_eqb, true≢false, and_parts, and_from, and_left, and_right, not-true, not_from_false, ltb-true, lt-ltb, cond-true, cond-false, false_from_ne_true}
use Rattle.std.proofs.lemmas.List.{reverse-append, take_more, take_all}
use Rattle.std.proofs.lemmas.List.Sums.{sum_by-cons, sum_by_push}
use Rattle.std.proofs.lemmas.Option.{same_Some, none-some}
use Rattle.rapid_text.specs.Operations.{is_acquire, is_release}
use Rattle.rapid_text.specs.declared.event.Event.{Event}
use Rattle.rapid_text.specs.declared.event.Op.TheVariants.{Acquire}
use Rattle.rapid_text.proofs.CallerLemmas.{acquire-from_test}
use Rattle.trace_rules.specs.Rules.{acquire_count, release_count, hold_count}
use Rattle.event_index.specs.Events.{passes_by, thread_at}
use Rattle.event_index.proofs.CallerLemmas.{passes_event, find-passes, all_fail-find}
use Rattle.schedule.specs.Locks.{is_acquire_at, is_acquire_by, is_release_by, last_taker}
use Rattle.schedule.specs.Refusals.{other_holder, IsOnlyHolder}
use Rattle.schedule.specs.Reordering.{events_at, AtEach, FindsLockFree, RespectsLocks}
use Rattle.schedule.proofs.CountLemmas.{count_by-events_at}
use Rattle.schedule.proofs.ListLemmas.{Contains-here, Contains-later}

-- what is kept from each place to the next holds of the whole list
grown : (Q : List ℕ → Type 0) (R : List ℕ → ℕ → Type 0) (P : List ℕ) → Q [] → ((xs : List ℕ) (e : ℕ) → Q xs → R xs e → Q (xs ++ e ∷ [])) → AtEach P R → (k : ℕ) → k ≤ length P → Q (take k P)
grown Q R P none more each zero fits = none
grown Q R P none more each (suc k) fits =
    let one : k + 1 ≡ suc k = omega arith in
    subst Q (sym (take_more P k 0 (omega arith)) ∙ ap (λ n. take n P) one)
    (more (take k P) (get_or P k 0) (grown Q R P none more each k (omega arith)) (each k (omega arith)))

pub AtEach-grows : (Q : List ℕ → Type 0) (R : List ℕ → ℕ → Type 0) (P : List ℕ) → Q [] → ((xs : List ℕ) (e : ℕ) → Q xs → R xs e → Q (xs ++ e ∷ [])) → AtEach P R → Q P
AtEach-grows Q R P none more each =
    subst Q (take_all (length P) P (omega arith)) (grown Q R P none more each (length P) (omega arith))

-- the last that passes, of a list with one more
pub find-reverse_push : (p : ℕ → Bool) (xs : List ℕ) (e : ℕ) → find p (reverse (xs ++ e ∷ [])) ≡ cond (p e) (Some e) (find p (reverse xs))
find-reverse_push p xs e = ap (find p) (reverse-append xs (e ∷ []))

-- the thread took the lock last, or has released it as often as it took it
abbrev pub TookLastOrFree : List Event → ℕ → List ℕ → Type 0
TookLastOrFree T l P =
    (w : ℕ) → (last_taker T P l ≡ Some w) ⊎ (count_by (is_acquire_by T w l) P ≤ count_by (is_release_by T w l) P)

not_acquire_by : (l w : ℕ) (o : Option Event) → passes_by (λ v. is_acquire l v.op) o ≡ false → passes_by (λ v. v.thread == w && is_acquire l v.op) o ≡ false
not_acquire_by l w None h = refl
not_acquire_by l w (Some v) h = and_right (v.thread == w) (is_acquire l v.op) h

pub counts_push : (p : ℕ → Bool) (xs : List ℕ) (e : ℕ) → count_by p (xs ++ e ∷ []) ≡ count_by p xs + cond (p e) 1 0
counts_push p xs e = sum_by_push (λ d. cond (p d) 1 0) xs e

-- an acquire of the lock by another thread is the last one then
module _ (T : List Event) (l : ℕ) (xs : List ℕ) (e : ℕ) (v : Event) (found : slice_get T e ≡ Some v) (acquires : v.op ≡ Acquire l) (free : FindsLockFree T xs e) where
  takes : is_acquire_at T l e ≡ true
  takes =
      ap (passes_by (λ x. is_acquire l x.op)) found
      ∙ ap (is_acquire l) acquires
      ∙ eq-eqb l l refl

  pub taker_is : last_taker T (xs ++ e ∷ []) l ≡ Some v.thread
  taker_is =
      ap (option_and_then (thread_at T)) (find-reverse_push (is_acquire_at T l) xs e ∙ cond-true (is_acquire_at T l e) (Some e) (find (is_acquire_at T l) (reverse xs)) takes)
      ∙ ap (option_map (λ x. x.thread)) found

  others_free : (w : ℕ) → v.thread ≢ w → count_by (is_acquire_by T w l) (xs ++ e ∷ []) ≤ count_by (is_release_by T w l) (xs ++ e ∷ [])
  others_free w other =
      let even : acquire_count (events_at T xs) w l ≡ release_count (events_at T xs) w l =
      free l w (ap (option_map (λ x. x.op)) found ∙ ap Some acquires)
      (λ same. other (same_Some v.thread w (sym (ap (option_map (λ x. x.thread)) found) ∙ same))) in
      let taken : acquire_count (events_at T xs) w l ≡ count_by (is_acquire_by T w l) xs =
      count_by-events_at T (λ x. x.thread == w && is_acquire l x.op) xs in
      let freed : release_count (events_at T xs) w l ≡ count_by (is_release_by T w l) xs =
      count_by-events_at T (λ x. x.thread == w && is_release l x.op) xs in
      let not_mine : is_acquire_by T w l e ≡ false =
      ap (passes_by (λ x. x.thread == w && is_acquire l x.op)) found ∙ and_left (v.thread == w) (is_acquire l v.op) (ne_eqb v.thread w other) in
      let acquires_then : count_by (is_acquire_by T w l) (xs ++ e ∷ []) ≡ count_by (is_acquire_by T w l) xs + 0 =
      counts_push (is_acquire_by T w l) xs e ∙ ap (λ b. count_by (is_acquire_by T w l) xs + cond b 1 0) not_mine in
      let releases_then = counts_push (is_release_by T w l) xs e in
      omega (arith, even, taken, freed, acquires_then, releases_then)

  took_last : TookLastOrFree T l (xs ++ e ∷ [])
  took_last w =
      elim (cases_eq v.thread w) [
        | inl same ↦ inl (taker_is ∙ ap Some same)
        | inr other ↦ inr (others_free w other)
      ]

-- what is no acquire of the lock leaves the last one
module _ (T : List Event) (l : ℕ) (xs : List ℕ) (e : ℕ) (other : is_acquire_at T l e ≡ false) where
  pub taker_stays : last_taker T (xs ++ e ∷ []) l ≡ last_taker T xs l
  taker_stays =
      ap (option_and_then (thread_at T)) (find-reverse_push (is_acquire_at T l) xs e ∙ cond-false (is_acquire_at T l e) (Some e) (find (is_acquire_at T l) (reverse xs)) other)

  free_stays : (w : ℕ) → count_by (is_acquire_by T w l) xs ≤ count_by (is_release_by T w l) xs → count_by (is_acquire_by T w l) (xs ++ e ∷ []) ≤ count_by (is_release_by T w l) (xs ++ e ∷ [])
  free_stays w le =
      let acquires_then : count_by (is_acquire_by T w l) (xs ++ e ∷ []) ≡ count_by (is_acquire_by T w l) xs + 0 =
      counts_push (is_acquire_by T w l) xs e ∙ ap (λ b. count_by (is_acquire_by T w l) xs + cond b 1 0) (not_acquire_by l w (slice_get T e) other) in
      let releases_then = counts_push (is_release_by T w l) xs e in
      omega (arith, acquires_then, releases_then)

  took_last_stays : TookLastOrFree T l xs → TookLastOrFree T l (xs ++ e ∷ [])
  took_last_stays so w =
      elim (so w) [
        | inl taker ↦ inl (taker_stays ∙ taker)
        | inr free ↦ inr (free_stays w free)
      ]

took_last_step : (T : List Event) (l : ℕ) (xs : List ℕ) (e : ℕ) → TookLastOrFree T l xs → FindsLockFree T xs e → TookLastOrFree T l (xs ++ e ∷ [])
took_last_step T l xs e so free =
    elim (cases_Bool (is_acquire_at T l e)) [
      | inl taken ↦
          let a = passes_event (λ v. is_acquire l v.op) T e taken in
          took_last T l xs e a.0 a.1 (acquire-from_test l a.0.op a.2) free
      | inr other ↦ took_last_stays T l xs e other so
    ]

pub took_last_or_free : (T : List Event) (P : List ℕ) (l : ℕ) → RespectsLocks T P → TookLastOrFree T l P
took_last_or_free T P l locks =
    AtEach-grows (TookLastOrFree T l) (FindsLockFree T) P (λ w. inr (omega arith)) (λ xs e so free. took_last_step T l xs e so free) locks

-- a thread that holds the lock took it last
pub holder_took_last : (T : List Event) (P : List ℕ) (l w : ℕ) → RespectsLocks T P → 0 < hold_count (events_at T P) w l → last_taker T P l ≡ Some w
holder_took_last T P l w locks holds =
    elim (took_last_or_free T P l locks w) [
      | inl taker ↦ taker
      | inr free ↦
          absurd
          (
          omega (
            arith,
            free,
            count_by-events_at T (λ x. x.thread == w && is_acquire l x.op) P,
            count_by-events_at T (λ x. x.thread == w && is_release l x.op) P,
          ))
    ]

-- a thread that took the lock has an event there
pub counted_thread : (u l : ℕ) (es : List Event) → 0 < acquire_count es u l → Contains (map (λ v. v.thread) es) u
counted_thread u l [] h = absurd (omega arith)
counted_thread u l (v ∷ es) h =
    let whole : acquire_count (v ∷ es) u l ≡ cond (v.thread == u && is_acquire l v.op) 1 0 + acquire_count es u l =
    sum_by-cons (λ w. cond (w.thread == u && is_acquire l w.op) 1 0) v es in
    elim (cases_eq v.thread u) [
      | inl same ↦ Contains-here v.thread u (map (λ w. w.thread) es) same
      | inr other ↦
          let none : cond {A = ℕ} (v.thread == u && is_acquire l v.op) 1 0 ≡ 0 =
          ap (λ b. cond b 1 0) (and_left (v.thread == u) (is_acquire l v.op) (ne_eqb v.thread u other)) in
          Contains-later v.thread u (map (λ w. w.thread) es) (counted_thread u l es (omega (arith, whole, none)))
    ]

-- the one member that passes is found
find-only : (p : ℕ → Bool) (xs : List ℕ) (u : ℕ) → Contains xs u → p u ≡ true → ((w : ℕ) → p w ≡ true → w ≡ u) → find p xs ≡ Some u
find-only p [] u (k, lt, at) so only = absurd (omega arith)
find-only p (x ∷ xs) u (zero, lt, at) so only =
    cond-true (p x) (Some x) (find p xs) (ap p at ∙ so) ∙ ap Some at
find-only p (x ∷ xs) u (suc k, lt, at) so only =
    elim (cases_Bool (p x)) [
      | inl passes ↦ cond-true (p x) (Some x) (find p xs) passes ∙ ap Some (only x passes)
      | inr fails ↦ cond-false (p x) (Some x) (find p xs) fails ∙ find-only p xs u (k, omega arith, at) so only
    ]

-- whether the thread is another one that holds the lock
abbrev pub holds_beside : List Event → List ℕ → ℕ → ℕ → ℕ → Bool
holds_beside T P t l u = not (u == t) && nat_lt 0 (hold_count (events_at T P) u l)

pub holds_beside-true : (T : List Event) (P : List ℕ) (t l u : ℕ) → holds_beside T P t l u ≡ true → (u ≢ t) × (0 < hold_count (events_at T P) u l)
holds_beside-true T P t l u h =
    let parts = and_parts (not (u == t)) (nat_lt 0 (hold_count (events_at T P) u l)) h in (
      λ same. true≢false (sym (eq-eqb u t same) ∙ not-true (u == t) parts.0),
      ltb-true 0 (hold_count (events_at T P) u l) parts.1,
    )

pub holds_beside-from : (T : List Event) (P : List ℕ) (t l u : ℕ) → u ≢ t → 0 < hold_count (events_at T P) u l → holds_beside T P t l u ≡ true
holds_beside-from T P t l u other holds =
    and_from (not (u == t)) (nat_lt 0 (hold_count (events_at T P) u l)) (not_from_false (u == t) (ne_eqb u t other)) (lt-ltb 0 (hold_count (events_at T P) u l) holds)

-- no other thread holds it, where none can
pub no_other_holder : (T : List Event) (P : List ℕ) (t l : ℕ) → ((u : ℕ) → u ≢ t → 0 < hold_count (events_at T P) u l → ⊥) → other_holder T P t l ≡ None
no_other_holder T P t l none =
    let fails : (u : ℕ) → holds_beside T P t l u ≡ false =
    λ u. false_from_ne_true (holds_beside T P t l u) (λ so. let h = holds_beside-true T P t l u so in none u h.0 h.1) in
    all_fail-find (holds_beside T P t l) (map (λ v. v.thread) (events_at T P)) (λ k d lt. fails (get_or (map (λ v. v.thread) (events_at T P)) k d))

-- the thread that took the lock last is the other holder, where it is another one and holds the lock
pub other_holder-taker : (T : List Event) (P : List ℕ) (t l u : ℕ) → RespectsLocks T P → last_taker T P l ≡ Some u → u ≢ t → 0 < hold_count (events_at T P) u l → other_holder T P t l ≡ Some u
other_holder-taker T P t l u locks taker other holds =
    find-only (holds_beside T P t l) (map (λ v. v.thread) (events_at T P)) u (counted_thread u l (events_at T P) (omega arith))
    (holds_beside-from T P t l u other holds)
    (λ w so. same_Some w u (sym (holder_took_last T P l w locks (holds_beside-true T P t l w so).1) ∙ taker))

pub other_holder-no_taker : (T : List Event) (P : List ℕ) (t l : ℕ) → RespectsLocks T P → last_taker T P l ≡ None → other_holder T P t l ≡ None
other_holder-no_taker T P t l locks taker =
    no_other_holder T P t l (λ u _ holds. none-some u (sym taker ∙ holder_took_last T P l u locks holds))

pub other_holder-own : (T : List Event) (P : List ℕ) (t l u : ℕ) → RespectsLocks T P → last_taker T P l ≡ Some u → u ≡ t → other_holder T P t l ≡ None
other_holder-own T P t l u locks taker same =
    no_other_holder T P t l (λ w other holds. other (same_Some w u (sym (holder_took_last T P l w locks holds) ∙ taker) ∙ same))

pub other_holder-freed : (T : List Event) (P : List ℕ) (t l u : ℕ) → RespectsLocks T P → last_taker T P l ≡ Some u → hold_count (events_at T P) u l ≡ 0 → other_holder T P t l ≡ None
other_holder-freed T P t l u locks taker free =
    no_other_holder T P t l
    (λ w other holds.
    let same : w ≡ u = same_Some w u (sym (holder_took_last T P l w locks holds) ∙ taker) in
    let none : hold_count (events_at T P) w l ≡ 0 = ap (λ x. hold_count (events_at T P) x l) same ∙ free in
    omega (arith, none, holds))

-- the other holder is the only one
pub IsOnlyHolder-other : (T : List Event) (P : List ℕ) (t l u : ℕ) → RespectsLocks T P → other_holder T P t l ≡ Some u → IsOnlyHolder T P l u
IsOnlyHolder-other T P t l u locks found =
    let h = holds_beside-true T P t l u (find-passes (holds_beside T P t l) (map (λ v. v.thread) (events_at T P)) u found) in
    record {
      holds = h.1;
      only = λ w holds. same_Some w u (sym (holder_took_last T P l w locks holds) ∙ holder_took_last T P l u locks h.1);
    }
