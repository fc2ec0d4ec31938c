-- The locks that threads hold, as lists, event by event.
use Rattle.std.proofs.Common.{◌≡◌, ◌≢◌, ℕ, zero, suc, ◌+◌, ◌<◌, ◌⊎◌, ◌==◌, Bool, true, false, cond, List, [], ◌∷◌, ◌++◌, Vec, take, set, count_by, Some, refl, sym, ap, ◌∙◌, arith, inl, inr, eq-eqb}
use Rattle.std.specs.List.{list_any, slice_get}
use Rattle.std.specs.declared.alloc.Global.{Global}
use Rattle.std.proofs.lemmas.Bool.{true≢false, or_cases, and_right, cases_eq, ne_eqb}
use Rattle.std.proofs.lemmas.List.Sums.{sum_by-cons, sum_by_push}
use Rattle.std.proofs.lemmas.Option.{slice_get_within}
use Rattle.rapid_text.specs.Operations.{is_acquire, is_release}
use Rattle.rapid_text.specs.declared.event.Event.{Event}
use Rattle.rapid_text.specs.declared.event.Op.TheVariants.{Acquire, Release}
use Rattle.trace_rules.specs.Rules.{IsDisciplined, hold_count}
use Rattle.trace_rules.proofs.Counts.{slice_get-set}
use Rattle.event_index.proofs.CallerLemmas.{hold_same, hold_taken, hold_freed, takes_not_thread, frees_not_thread}
use Rattle.event_index.proofs.HoldLemmas.{takes_from, frees_from, acquire_frees_not, release_takes_not, takes_not_lock, frees_not_lock}
use Rattle.variable_uses.specs.Held.{times, AreHeld}

one_by : (b : Bool) → b ≡ true → (n : ℕ) → 0 < cond b 1 0 + n
one_by true is n = omega arith
one_by false is n = absurd (true≢false (sym is))

as_one : (b : Bool) → b ≡ true → ◌≡◌ {A = ℕ} (cond b 1 0) 1
as_one b h = ap (λ (x : Bool). cond x 1 0) h

as_none : (b : Bool) → b ≡ false → ◌≡◌ {A = ℕ} (cond b 1 0) 0
as_none b h = ap (λ (x : Bool). cond x 1 0) h

-- what some element passes counts above 0
pub count_from_any : (p : ℕ → Bool) (xs : List ℕ) → list_any p xs ≡ true → 0 < count_by p xs
count_from_any p [] h = absurd (true≢false (sym h))
count_from_any p (x ∷ xs) h =
    let parts = sum_by-cons (λ y. cond (p y) 1 0) x xs in
    elim (or_cases (p x) (list_any p xs) h) [
      | inl here ↦ let one = one_by (p x) here (count_by p xs) in omega (arith, parts, one)
      | inr rest ↦ let more = count_from_any p xs rest in omega (arith, parts, more)
    ]

-- an event that takes no lock and lets none go
module _ (T : List Event) (rules : IsDisciplined T) (n : ℕ) (v : Event) (at : slice_get T n ≡ Some v) (held : List (Vec ℕ Global)) (are : AreHeld T n held) where
  pub AreHeld-same : ((l : ℕ) → is_acquire l v.op ≡ false) → ((l : ℕ) → is_release l v.op ≡ false) → AreHeld T (n + 1) held
  AreHeld-same takes_none frees_none t w l found =
      are t w l found
      ∙ sym (hold_same T n t l v at (and_right (v.thread == t) (is_acquire l v.op) (takes_none l)) (and_right (v.thread == t) (is_release l v.op) (frees_none l)))

  other_thread : (t : ℕ) (w : Vec ℕ Global) (l : ℕ) → t ≢ v.thread → slice_get held t ≡ Some w → times l w.items ≡ hold_count (take (n + 1) T) t l
  other_thread t w l other found =
      are t w l found ∙ sym (hold_same T n t l v at (takes_not_thread v t l (λ is. other (sym is))) (frees_not_thread v t l (λ is. other (sym is))))

  module _ (after : List (Vec ℕ Global)) (w u : Vec ℕ Global) (lock : ℕ) (is : slice_get held v.thread ≡ Some u) (set_is : after ≡ set held v.thread w) where
    -- what stands at a place afterwards
    stands : (t : ℕ) (x : Vec ℕ Global) → slice_get after t ≡ Some x → ((t ≡ v.thread) × (w ≡ x)) ⊎ ((t ≢ v.thread) × (slice_get held t ≡ Some x))
    stands t x found = slice_get-set held v.thread t w x (slice_get_within held v.thread u is) (ap (λ xs. slice_get xs t) (sym set_is) ∙ found)

    here : ((l : ℕ) → times l w.items ≡ hold_count (take (n + 1) T) v.thread l) → AreHeld T (n + 1) after
    here holds t x l found =
        elim (stands t x found) [
          | inl mine ↦ ap (λ (y : Vec ℕ Global). times l y.items) (sym mine.1) ∙ holds l ∙ ap (λ s. hold_count (take (n + 1) T) s l) (sym mine.0)
          | inr other ↦ other_thread t x l other.0 other.1
        ]

    -- one that takes a lock
    pub AreHeld-take : v.op ≡ Acquire lock → w.items ≡ u.items ++ lock ∷ [] → AreHeld T (n + 1) after
    AreHeld-take op more = here (λ l.
        let old = are v.thread u l is in
        let push : times l w.items ≡ times l u.items + cond (lock == l) 1 0 = ap (times l) more ∙ sum_by_push (λ k. cond (k == l) 1 0) u.items lock in
        elim (cases_eq lock l) [
          | inl same ↦
              let one : cond (lock == l) 1 0 ≡ 1 = as_one (lock == l) (eq-eqb lock l same) in
              let now = hold_taken T rules n v.thread l v at (takes_from v v.thread l refl (op ∙ ap Acquire same)) (acquire_frees_not v v.thread l lock op) in
              omega (arith, old, push, one, now)
          | inr other ↦
              let none : cond (lock == l) 1 0 ≡ 0 = as_none (lock == l) (ne_eqb lock l other) in
              let now = hold_same T n v.thread l v at (takes_not_lock v v.thread l lock op other) (acquire_frees_not v v.thread l lock op) in
              omega (arith, old, push, none, now)
        ])

    -- one that lets a lock go
    pub AreHeld-let_go : v.op ≡ Release lock → ((k : ℕ) → times k w.items + cond (lock == k) 1 0 ≡ times k u.items) → AreHeld T (n + 1) after
    AreHeld-let_go op less = here (λ l.
        let old = are v.thread u l is in
        let part = less l in
        elim (cases_eq lock l) [
          | inl same ↦
              let one : cond (lock == l) 1 0 ≡ 1 = as_one (lock == l) (eq-eqb lock l same) in
              let now = hold_freed T rules n v.thread l v at (release_takes_not v v.thread l lock op) (frees_from v v.thread l refl (op ∙ ap Release same)) in
              omega (arith, old, part, one, now)
          | inr other ↦
              let none : cond (lock == l) 1 0 ≡ 0 = as_none (lock == l) (ne_eqb lock l other) in
              let now = hold_same T n v.thread l v at (release_takes_not v v.thread l lock op) (frees_not_lock v v.thread l lock op other) in
              omega (arith, old, part, none, now)
        ])

-- the lock that a release lets go stands in the list
pub held_there : (T : List Event) → IsDisciplined T → (n lock : ℕ) (v : Event) (held : List (Vec ℕ Global)) (u : Vec ℕ Global) → slice_get T n ≡ Some v → AreHeld T n held
    → slice_get held v.thread ≡ Some u → v.op ≡ Release lock → 0 < times lock u.items
held_there T rules n lock v held u at are is op =
    let mine = rules.releases_held n lock v at op in
    let same = are v.thread u lock is in
    omega (arith, mine, same)

-- an element of the longer list is one of the shorter, or the last
get_either : {X : Type 0} (xs : List X) (y : X) (k : ℕ) (x : X) → slice_get (xs ++ y ∷ []) k ≡ Some x → (slice_get xs k ≡ Some x) ⊎ (y ≡ x)
get_either [] y zero x at = inr cc
get_either [] y (suc k) x at = cc
get_either (z ∷ xs) y zero x at = inl at
get_either (z ∷ xs) y (suc k) x at = get_either xs y k x at

-- a list more, of a thread that holds nothing
pub AreHeld-push : (T : List Event) (held after : List (Vec ℕ Global)) (w : Vec ℕ Global) → AreHeld T 0 held → after ≡ held ++ w ∷ [] → w.items ≡ [] → AreHeld T 0 after
AreHeld-push T held after w are is empty t v l found =
    elim (get_either held w t v (ap (λ xs. slice_get xs t) (sym is) ∙ found)) [
      | inl old ↦ are t v l old
      | inr mine ↦ ap (λ (x : Vec ℕ Global). times l x.items) (sym mine) ∙ ap (times l) empty
    ]

-- an empty list more
pub empty-push : {X : Type 0} (lists after : List (Vec X Global)) (w : Vec X Global) → ((l : ℕ) (v : Vec X Global) → slice_get lists l ≡ Some v → v.items ≡ []) → after ≡ lists ++ w ∷ [] → w.items ≡ [] → (l : ℕ) (v : Vec X Global)
    → slice_get after l ≡ Some v → v.items ≡ []
empty-push {X} lists after w are is empty l v at =
    elim (get_either lists w l v (ap (λ xs. slice_get xs l) (sym is) ∙ at)) [ inl old ↦ are l v old | inr mine ↦ ap (λ (x : Vec X Global). x.items) (sym mine) ∙ empty ]
