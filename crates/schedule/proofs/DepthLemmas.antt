-- All holds of a lock are those of the thread that took it last.
use Rattle.std.proofs.Common.{◌≡◌, ◌≢◌, ℕ, ◌+◌, ◌-◌, ◌≤◌, ◌⊎◌, ◌==◌, ◌&&◌, Bool, true, false, cond, List, [], ◌∷◌, ◌++◌, count_by, Option, Some, None, option_map, sym, refl, ap, ◌∙◌, subst, arith, inl, inr}
use Rattle.std.proofs.lemmas.Bool.{cases_Bool, cases_eq, eq-eqb, and_right}
use Rattle.std.proofs.lemmas.List.{take_more}
use Rattle.std.proofs.lemmas.Option.{same_Some, none-some}
use Rattle.rapid_text.specs.Operations.{is_acquire, is_release}
use Rattle.rapid_text.specs.declared.event.Event.{Event}
use Rattle.rapid_text.specs.declared.event.Op.TheVariants.{Acquire, Release}
use Rattle.rapid_text.proofs.CallerLemmas.{acquire-from_test, release-from_test}
use Rattle.trace_rules.specs.Rules.{IsDisciplined, acquire_count, release_count, hold_count}
use Rattle.event_index.specs.Events.{passes_by, passes_at}
use Rattle.schedule.specs.Locks.{is_acquire_at, is_release_at, is_acquire_by, is_release_by, last_taker}
use Rattle.schedule.specs.Reordering.{events_at, IsCorrectReordering, IsEnabled}
use Rattle.schedule.specs.Tables.{sets, frees}
use Rattle.schedule.specs.declared.latest.Key.{Key}
use Rattle.schedule.specs.declared.latest.Key.TheVariants.{Variable, Lock}
use Rattle.schedule.proofs.CountLemmas.{count_by-events_at, releases_within_list}
use Rattle.schedule.proofs.EnabledLemmas.{Allows, Allows-enabled, IsCorrectReordering-take}
use Rattle.schedule.proofs.LatestLemmas.{count_by-same, sets_lock, frees_lock, frees_variable, never_counted}
use Rattle.schedule.proofs.LockLemmas.{AtEach-grows, counts_push, taker_is, taker_stays, took_last_or_free}

-- the holds of all threads together are those of the last taker; before the first acquire there are none
pub record IsWhole (T : List Event) (l : ℕ) (P : List ℕ) : Type 0 where
  pub taken : (w : ℕ) → last_taker T P l ≡ Some w → count_by (is_acquire_by T w l) P + count_by (is_release_at T l) P ≡ count_by (is_acquire_at T l) P + count_by (is_release_by T w l) P
  pub never : last_taker T P l ≡ None → (count_by (is_acquire_at T l) P ≡ 0) × (count_by (is_release_at T l) P ≡ 0)

-- the releases of a thread are among its acquires, counted in the list
releases_le : (T : List Event) (P : List ℕ) (w l : ℕ) → IsDisciplined T → IsCorrectReordering T P → count_by (is_release_by T w l) P ≤ count_by (is_acquire_by T w l) P
releases_le T P w l d is =
    omega (
      arith,
      releases_within_list T P w l d (is.thread_order w),
      count_by-events_at T (λ v. v.thread == w && is_acquire l v.op) P,
      count_by-events_at T (λ v. v.thread == w && is_release l v.op) P,
    )

took_or_free : (o : Option ℕ) → (o ≡ None) ⊎ ((w : ℕ) × (o ≡ Some w))
took_or_free None = inl refl
took_or_free (Some w) = inr (w, refl)

module _ (T : List Event) (l : ℕ) (xs : List ℕ) (e : ℕ) (d : IsDisciplined T) (is : IsCorrectReordering T xs) (more : IsEnabled T xs e) (whole : IsWhole T l xs) where
  allowed : Allows T xs e
  allowed = Allows-enabled T xs e more

  abbrev t : ℕ
  t = allowed.v.thread

  passes : (test : Event → Bool) → passes_at test T e ≡ test allowed.v
  passes test = ap (passes_by test) allowed.found

  grows : (test : Event → Bool) → count_by (passes_at test T) (xs ++ e ∷ []) ≡ count_by (passes_at test T) xs + cond (test allowed.v) 1 0
  grows test = counts_push (passes_at test T) xs e ∙ ap (λ b. count_by (passes_at test T) xs + cond b 1 0) (passes test)

  -- a thread that did not take the lock last has no hold of it
  even_beside : (w : ℕ) → last_taker T xs l ≢ Some w → count_by (is_acquire_by T w l) xs ≡ count_by (is_release_by T w l) xs
  even_beside w other =
      elim (took_last_or_free T xs l is.locks w) [
        | inl taker ↦ absurd (other taker)
        | inr free ↦ omega (arith, free, releases_le T xs w l d is)
      ]

  module _ (op : allowed.v.op ≡ Acquire l) where
    -- before an acquire the counts agree for its own thread, whoever took the lock last
    own_taken : count_by (is_acquire_by T t l) xs + count_by (is_release_at T l) xs ≡ count_by (is_acquire_at T l) xs + count_by (is_release_by T t l) xs
    own_taken =
        elim (took_or_free (last_taker T xs l)) [
          | inl none ↦
              omega (arith, (whole.never none).0, (whole.never none).1, even_beside t (λ h. none-some t (sym none ∙ h)))
          | inr some ↦
              elim (cases_eq some.0 t) [
                | inl same ↦ whole.taken t (some.1 ∙ ap Some same)
                | inr other ↦
                    let free : acquire_count (events_at T xs) some.0 l ≡ release_count (events_at T xs) some.0 l =
                    allowed.lock l some.0 (ap (option_map (λ (x : Event). x.op)) allowed.found ∙ ap Some op)
                    (λ h. other (same_Some some.0 t (sym h ∙ ap (option_map (λ (x : Event). x.thread)) allowed.found))) in
                    omega (
                      arith,
                      free,
                      count_by-events_at T (λ v. v.thread == some.0 && is_acquire l v.op) xs,
                      count_by-events_at T (λ v. v.thread == some.0 && is_release l v.op) xs,
                      whole.taken some.0 some.1,
                      even_beside t (λ h. other (same_Some some.0 t (sym some.1 ∙ h))),
                    )
              ]
        ]

    whole_acquire : IsWhole T l (xs ++ e ∷ [])
    whole_acquire =
        let takes : is_acquire l allowed.v.op ≡ true = ap (is_acquire l) op ∙ eq-eqb l l refl in
        let no_free : is_release l allowed.v.op ≡ false = ap (is_release l) op in
        let taker : last_taker T (xs ++ e ∷ []) l ≡ Some t = taker_is T l xs e allowed.v allowed.found op allowed.lock in
        record {
          taken = λ w is_w.
              let same : t ≡ w = same_Some t w (sym taker ∙ is_w) in
              let mine : (t == t) ≡ true = eq-eqb t t refl in
              subst (λ (u : ℕ). count_by (is_acquire_by T u l) (xs ++ e ∷ []) + count_by (is_release_at T l) (xs ++ e ∷ []) ≡ count_by (is_acquire_at T l) (xs ++ e ∷ []) + count_by (is_release_by T u l) (xs ++ e ∷ [])) same
              (
              omega (
                arith,
                own_taken,
                grows (λ v. v.thread == t && is_acquire l v.op) ∙ ap (λ b. count_by (is_acquire_by T t l) xs + cond (b && is_acquire l allowed.v.op) 1 0) mine ∙ ap (λ b. count_by (is_acquire_by T t l) xs + cond b 1 0) takes,
                grows (λ v. v.thread == t && is_release l v.op) ∙ ap (λ b. count_by (is_release_by T t l) xs + cond b 1 0) (and_right (t == t) (is_release l allowed.v.op) no_free),
                grows (λ v. is_acquire l v.op) ∙ ap (λ b. count_by (is_acquire_at T l) xs + cond b 1 0) takes,
                grows (λ v. is_release l v.op) ∙ ap (λ b. count_by (is_release_at T l) xs + cond b 1 0) no_free,
              ));
          never = λ none. absurd (none-some t (sym none ∙ taker));
        }

  module _ (op : allowed.v.op ≡ Release l) where
    whole_release : IsWhole T l (xs ++ e ∷ [])
    whole_release =
        let frees_it : is_release l allowed.v.op ≡ true = ap (is_release l) op ∙ eq-eqb l l refl in
        let no_take : is_acquire l allowed.v.op ≡ false = ap (is_acquire l) op in
        let mine : (t == t) ≡ true = eq-eqb t t refl in
        let stays : last_taker T (xs ++ e ∷ []) l ≡ last_taker T xs l =
        taker_stays T l xs e (passes (λ v. is_acquire l v.op) ∙ no_take) in
        let acquires : count_by (is_acquire_by T t l) (xs ++ e ∷ []) ≡ count_by (is_acquire_by T t l) xs + 0 =
        grows (λ v. v.thread == t && is_acquire l v.op) ∙ ap (λ b. count_by (is_acquire_by T t l) xs + cond b 1 0) (and_right (t == t) (is_acquire l allowed.v.op) no_take) in
        let releases : count_by (is_release_by T t l) (xs ++ e ∷ []) ≡ count_by (is_release_by T t l) xs + 1 =
        grows (λ v. v.thread == t && is_release l v.op) ∙ ap (λ b. count_by (is_release_by T t l) xs + cond (b && is_release l allowed.v.op) 1 0) mine ∙ ap (λ b. count_by (is_release_by T t l) xs + cond b 1 0) frees_it in
        let held : last_taker T xs l ≡ Some t =
        elim (took_last_or_free T xs l is.locks t) [
          | inl taker ↦ taker
          | inr free ↦ absurd (omega (arith, free, acquires, releases, releases_le T (xs ++ e ∷ []) t l d more))
        ] in
        record {
          taken = λ w is_w.
              let same : t ≡ w = same_Some t w (sym held ∙ sym stays ∙ is_w) in
              subst (λ (u : ℕ). count_by (is_acquire_by T u l) (xs ++ e ∷ []) + count_by (is_release_at T l) (xs ++ e ∷ []) ≡ count_by (is_acquire_at T l) (xs ++ e ∷ []) + count_by (is_release_by T u l) (xs ++ e ∷ [])) same
              (
              omega (
                arith,
                whole.taken t held,
                acquires,
                releases,
                grows (λ v. is_acquire l v.op) ∙ ap (λ b. count_by (is_acquire_at T l) xs + cond b 1 0) no_take,
                grows (λ v. is_release l v.op) ∙ ap (λ b. count_by (is_release_at T l) xs + cond b 1 0) frees_it,
              ));
          never = λ none. absurd (none-some t (sym none ∙ stays ∙ held));
        }

  module _ (no_take : is_acquire l allowed.v.op ≡ false) (no_free : is_release l allowed.v.op ≡ false) where
    whole_other : IsWhole T l (xs ++ e ∷ [])
    whole_other =
        let stays : last_taker T (xs ++ e ∷ []) l ≡ last_taker T xs l =
        taker_stays T l xs e (passes (λ v. is_acquire l v.op) ∙ no_take) in
        let all_acquires = grows (λ v. is_acquire l v.op) ∙ ap (λ b. count_by (is_acquire_at T l) xs + cond b 1 0) no_take in
        let all_releases = grows (λ v. is_release l v.op) ∙ ap (λ b. count_by (is_release_at T l) xs + cond b 1 0) no_free in
        record {
          taken = λ w is_w.
              omega (
                arith,
                whole.taken w (sym stays ∙ is_w),
                all_acquires,
                all_releases,
                grows (λ v. v.thread == w && is_acquire l v.op) ∙ ap (λ b. count_by (is_acquire_by T w l) xs + cond b 1 0) (and_right (t == w) (is_acquire l allowed.v.op) no_take),
                grows (λ v. v.thread == w && is_release l v.op) ∙ ap (λ b. count_by (is_release_by T w l) xs + cond b 1 0) (and_right (t == w) (is_release l allowed.v.op) no_free),
              );
          never = λ none.
              let before = whole.never (sym stays ∙ none) in
              (omega (arith, before.0, all_acquires), omega (arith, before.1, all_releases));
        }

  whole_step : IsWhole T l (xs ++ e ∷ [])
  whole_step =
      elim (cases_Bool (is_acquire l allowed.v.op)) [
        | inl takes ↦ whole_acquire (acquire-from_test l allowed.v.op takes)
        | inr no_take ↦
            elim (cases_Bool (is_release l allowed.v.op)) [
              | inl frees_it ↦ whole_release (release-from_test l allowed.v.op frees_it)
              | inr no_free ↦ whole_other no_take no_free
            ]
      ]

-- a step of a correct reordering
record IsStep (T : List Event) (xs : List ℕ) (e : ℕ) : Type 0 where
  before : IsCorrectReordering T xs
  after : IsEnabled T xs e

pub IsWhole-reordering : (T : List Event) (l : ℕ) (P : List ℕ) → IsDisciplined T → IsCorrectReordering T P → IsWhole T l P
IsWhole-reordering T l P d is =
    AtEach-grows (IsWhole T l) (IsStep T) P
    (record { taken = λ w h. absurd (none-some w h); never = λ _. (refl, refl) })
    (λ xs e whole step. whole_step T l xs e d step.before step.after whole)
    (λ i lt. record {
      before = IsCorrectReordering-take T P i (omega arith) is;
      after = subst (IsCorrectReordering T) (take_more P i 0 lt) (IsCorrectReordering-take T P (i + 1) (omega arith) is);
    })

-- how much oftener the lock was taken than let go is how many holds its last taker has
pub hold_count-taker :
    (T : List Event) (l : ℕ) (P : List ℕ) → IsDisciplined T → IsCorrectReordering T P
    → (w : ℕ) → last_taker T P l ≡ Some w
    → hold_count (events_at T P) w l ≡ count_by (sets T (Lock l)) P - count_by (frees T (Lock l)) P
hold_count-taker T l P d is w taker =
    omega (
      arith,
      (IsWhole-reordering T l P d is).taken w taker,
      count_by-events_at T (λ v. v.thread == w && is_acquire l v.op) P,
      count_by-events_at T (λ v. v.thread == w && is_release l v.op) P,
      count_by-same (sets T (Lock l)) (is_acquire_at T l) (sets_lock T l) P,
      count_by-same (frees T (Lock l)) (is_release_at T l) (frees_lock T l) P,
    )

frees_lock_within : (T : List Event) (l : ℕ) (P : List ℕ) → IsDisciplined T → IsCorrectReordering T P → count_by (is_release_at T l) P ≤ count_by (is_acquire_at T l) P
frees_lock_within T l P d is =
    let whole = IsWhole-reordering T l P d is in
    elim (took_or_free (last_taker T P l)) [
      | inl none ↦ omega (arith, (whole.never none).1)
      | inr some ↦ omega (arith, whole.taken some.0 some.1, releases_le T P some.0 l d is)
    ]

-- nothing is freed oftener than it is set
pub frees_within : (T : List Event) (P : List ℕ) (q : Key) → IsDisciplined T → IsCorrectReordering T P → count_by (frees T q) P ≤ count_by (sets T q) P
frees_within T P (Variable x) d is = omega (arith, never_counted (frees T (Variable x)) (frees_variable T x) P)
frees_within T P (Lock l) d is =
    omega (
      arith,
      frees_lock_within T l P d is,
      count_by-same (sets T (Lock l)) (is_acquire_at T l) (sets_lock T l) P,
      count_by-same (frees T (Lock l)) (is_release_at T l) (frees_lock T l) P,
    )
