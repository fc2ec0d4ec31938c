-- The locks that threads hold, as lists: event by event, and what two lists have in common.
use Rattle.std.proofs.Common.{◌≡◌, ◌≢◌, ℕ, ◌+◌, ◌<◌, ◌⊎◌, ◌==◌, Bool, true, false, cond, List, [], ◌∷◌, ◌++◌, Vec, take, set, count_by, filter, not, slice_index, Option, Some, None, refl, sym, ap, ◌∙◌, subst, arith, inl, inr, eq-eqb, eqb-true}
use Rattle.std.specs.List.{list_any, slice_get}
use Rattle.std.specs.Option.{option_map}
use Rattle.std.specs.declared.alloc.Global.{Global}
use Rattle.std.proofs.lemmas.Bool.{true≢false, or_cases, or_left, or_right, and_right, cases_eq, cases_lt, le-ltb, ne_eqb}
use Rattle.std.proofs.lemmas.List.Sorted.{list_any-IsPermutation}
use Rattle.std.proofs.lemmas.List.Sums.{sum_by-cons, sum_by_push}
use Rattle.std.specs.List.Sorted.{IsPermutation}
use Rattle.std.proofs.lemmas.Option.{same_Some, slice_get_within}
use Rattle.rapid_text.specs.Operations.{is_acquire, is_release}
use Rattle.rapid_text.specs.declared.event.Event.{Event}
use Rattle.rapid_text.specs.declared.event.Op.TheVariants.{Acquire, Release}
use Rattle.trace_rules.specs.Rules.{IsDisciplined, hold_count}
use Rattle.trace_rules.proofs.Counts.{slice_get-set, list_any-from_count}
use Rattle.event_index.proofs.CallerLemmas.{hold_same, hold_taken, hold_freed, takes_not_thread, frees_not_thread}
use Rattle.event_index.specs.Events.{thread_at}
use Rattle.event_index.proofs.HoldLemmas.{takes_from, frees_from, acquire_frees_not, release_takes_not, takes_not_lock, frees_not_lock}
use Rattle.race_groups.proofs.BuildLemmas.{get_either}
use Rattle.race_groups.specs.Building.{text_at}
use Rattle.race_groups.specs.Holding.{times, AreHeld, AreLocksOf, AreLocksOfThread, IsLent}
use Rattle.race_groups.specs.Shared.{is_meeting}
use Rattle.race_groups.specs.Takers.{AreTakers, is_lent}

one_by : (b : Bool) → b ≡ true → (n : ℕ) → 0 < cond b 1 0 + n
one_by true is n = omega arith
one_by false is n = absurd (true≢false (sym is))

as_one : (b : Bool) → b ≡ true → ◌≡◌ {A = ℕ} (cond b 1 0) 1
as_one b h = ap (λ (x : Bool). cond x 1 0) h

as_none : (b : Bool) → b ≡ false → ◌≡◌ {A = ℕ} (cond b 1 0) 0
as_none b h = ap (λ (x : Bool). cond x 1 0) h

-- what some element passes counts above 0
pub count_from_any : (p : ℕ → Bool) (xs : List ℕ) → list_any p xs ≡ true → 0 < count_by p xs
count_from_any p [] h = absurd (true≢false (sym h))
count_from_any p (x ∷ xs) h =
    let parts = sum_by-cons (λ y. cond (p y) 1 0) x xs in
    elim (or_cases (p x) (list_any p xs) h) [
      | inl here ↦ let one = one_by (p x) here (count_by p xs) in omega (arith, parts, one)
      | inr rest ↦ let more = count_from_any p xs rest in omega (arith, parts, more)
    ]

-- lists with a lock in common have one
pub meeting_has : (xs ys : List ℕ) → is_meeting xs ys ≡ true → (l : ℕ) × (list_any (λ k. k == l) xs ≡ true) × (list_any (λ k. k == l) ys ≡ true)
meeting_has [] ys h = absurd (true≢false (sym h))
meeting_has (x ∷ xs) ys h =
    elim (or_cases (list_any (λ k. k == x) ys) (is_meeting xs ys) h) [
      | inl here ↦ (x, or_left (x == x) (list_any (λ k. k == x) xs) (eq-eqb x x refl), here)
      | inr rest ↦ let found = meeting_has xs ys rest in (found.0, or_right (x == found.0) (list_any (λ k. k == found.0) xs) found.1, found.2)
    ]

pub has_meeting : (xs ys : List ℕ) (l : ℕ) → list_any (λ k. k == l) xs ≡ true → list_any (λ k. k == l) ys ≡ true → is_meeting xs ys ≡ true
has_meeting [] ys l h also = absurd (true≢false (sym h))
has_meeting (x ∷ xs) ys l h also =
    elim (or_cases (x == l) (list_any (λ k. k == l) xs) h) [
      | inl here ↦ or_left (list_any (λ k. k == x) ys) (is_meeting xs ys) (ap (λ m. list_any (λ k. k == m) ys) (eqb-true x l here) ∙ also)
      | inr rest ↦ or_right (list_any (λ k. k == x) ys) (is_meeting xs ys) (has_meeting xs ys l rest also)
    ]

-- an event that takes no lock and lets none go
module _ (T : List Event) (rules : IsDisciplined T) (n : ℕ) (v : Event) (at : slice_get T n ≡ Some v) (held : List (Vec ℕ Global)) (are : AreHeld T n held) where
  pub AreHeld-same : ((l : ℕ) → is_acquire l v.op ≡ false) → ((l : ℕ) → is_release l v.op ≡ false) → AreHeld T (n + 1) held
  AreHeld-same takes_none frees_none t w l found =
      are t w l found
      ∙ sym (hold_same T n t l v at (and_right (v.thread == t) (is_acquire l v.op) (takes_none l)) (and_right (v.thread == t) (is_release l v.op) (frees_none l)))

  other_thread : (t : ℕ) (w : Vec ℕ Global) (l : ℕ) → t ≢ v.thread → slice_get held t ≡ Some w → times l w.items ≡ hold_count (take (n + 1) T) t l
  other_thread t w l other found =
      are t w l found ∙ sym (hold_same T n t l v at (takes_not_thread v t l (λ is. other (sym is))) (frees_not_thread v t l (λ is. other (sym is))))

  module _ (after : List (Vec ℕ Global)) (w u : Vec ℕ Global) (lock : ℕ) (is : slice_get held v.thread ≡ Some u) (set_is : after ≡ set held v.thread w) where
    -- what stands at a place afterwards
    stands : (t : ℕ) (x : Vec ℕ Global) → slice_get after t ≡ Some x → ((t ≡ v.thread) × (w ≡ x)) ⊎ ((t ≢ v.thread) × (slice_get held t ≡ Some x))
    stands t x found = slice_get-set held v.thread t w x (slice_get_within held v.thread u is) (ap (λ xs. slice_get xs t) (sym set_is) ∙ found)

    here : ((l : ℕ) → times l w.items ≡ hold_count (take (n + 1) T) v.thread l) → AreHeld T (n + 1) after
    here holds t x l found =
        elim (stands t x found) [
          | inl mine ↦ ap (λ (y : Vec ℕ Global). times l y.items) (sym mine.1) ∙ holds l ∙ ap (λ s. hold_count (take (n + 1) T) s l) (sym mine.0)
          | inr other ↦ other_thread t x l other.0 other.1
        ]

    -- one that takes a lock
    pub AreHeld-take : v.op ≡ Acquire lock → w.items ≡ u.items ++ lock ∷ [] → AreHeld T (n + 1) after
    AreHeld-take op more = here (λ l.
        let old = are v.thread u l is in
        let push : times l w.items ≡ times l u.items + cond (lock == l) 1 0 = ap (times l) more ∙ sum_by_push (λ k. cond (k == l) 1 0) u.items lock in
        elim (cases_eq lock l) [
          | inl same ↦
              let one : cond (lock == l) 1 0 ≡ 1 = as_one (lock == l) (eq-eqb lock l same) in
              let now = hold_taken T rules n v.thread l v at (takes_from v v.thread l refl (op ∙ ap Acquire same)) (acquire_frees_not v v.thread l lock op) in
              omega (arith, old, push, one, now)
          | inr other ↦
              let none : cond (lock == l) 1 0 ≡ 0 = as_none (lock == l) (ne_eqb lock l other) in
              let now = hold_same T n v.thread l v at (takes_not_lock v v.thread l lock op other) (acquire_frees_not v v.thread l lock op) in
              omega (arith, old, push, none, now)
        ])

    -- one that lets a lock go
    pub AreHeld-let_go : v.op ≡ Release lock → ((k : ℕ) → times k w.items + cond (lock == k) 1 0 ≡ times k u.items) → AreHeld T (n + 1) after
    AreHeld-let_go op less = here (λ l.
        let old = are v.thread u l is in
        let part = less l in
        elim (cases_eq lock l) [
          | inl same ↦
              let one : cond (lock == l) 1 0 ≡ 1 = as_one (lock == l) (eq-eqb lock l same) in
              let now = hold_freed T rules n v.thread l v at (release_takes_not v v.thread l lock op) (frees_from v v.thread l refl (op ∙ ap Release same)) in
              omega (arith, old, part, one, now)
          | inr other ↦
              let none : cond (lock == l) 1 0 ≡ 0 = as_none (lock == l) (ne_eqb lock l other) in
              let now = hold_same T n v.thread l v at (release_takes_not v v.thread l lock op) (frees_not_lock v v.thread l lock op other) in
              omega (arith, old, part, none, now)
        ])

-- the lock that a release lets go stands in the list
pub held_there : (T : List Event) → IsDisciplined T → (n lock : ℕ) (v : Event) (held : List (Vec ℕ Global)) (u : Vec ℕ Global) → slice_get T n ≡ Some v → AreHeld T n held
    → slice_get held v.thread ≡ Some u → v.op ≡ Release lock → 0 < times lock u.items
held_there T rules n lock v held u at are is op =
    let mine = rules.releases_held n lock v at op in
    let same = are v.thread u lock is in
    omega (arith, mine, same)

found_list : (o : Option (Vec ℕ Global)) (items : List ℕ) → option_map (λ v. v.items) o ≡ Some items → (w : Vec ℕ Global) × (o ≡ Some w) × (w.items ≡ items)
found_list None items h = cc
found_list (Some w) items h = (w, refl, same_Some w.items items h)

-- what some element of a filtered list passes, one of the list does
module _ (p : ℕ → Bool) (x : ℕ) (xs ys : List ℕ) (inside : list_any p ys ≡ true → list_any p xs ≡ true) where
  any_kept : (b : Bool) → list_any p (cond b (x ∷ ys) ys) ≡ true → list_any p (x ∷ xs) ≡ true
  any_kept true h = elim (or_cases (p x) (list_any p ys) h) [
    | inl passes ↦ or_left (p x) (list_any p xs) passes
    | inr rest ↦ or_right (p x) (list_any p xs) (inside rest)
  ]
  any_kept false h = or_right (p x) (list_any p xs) (inside h)

any_of_filter : (q p : ℕ → Bool) (xs : List ℕ) → list_any p (filter q xs) ≡ true → list_any p xs ≡ true
any_of_filter q p [] h = h
any_of_filter q p (x ∷ xs) h = any_kept p x xs (filter q xs) (any_of_filter q p xs) (q x) h

-- an element that passes stands in the filtered list
kept_there : (p : ℕ → Bool) (x : ℕ) (ys : List ℕ) (b : Bool) → b ≡ true → p x ≡ true → list_any p (cond b (x ∷ ys) ys) ≡ true
kept_there p x ys true is passes = or_left (p x) (list_any p ys) passes
kept_there p x ys false is passes = absurd (true≢false (sym is))

kept_behind : (p : ℕ → Bool) (x : ℕ) (ys : List ℕ) (b : Bool) → list_any p ys ≡ true → list_any p (cond b (x ∷ ys) ys) ≡ true
kept_behind p x ys true rest = or_right (p x) (list_any p ys) rest
kept_behind p x ys false rest = rest

any_in_filter : (q : ℕ → Bool) (l : ℕ) (xs : List ℕ) → q l ≡ true → list_any (λ k. k == l) xs ≡ true → list_any (λ k. k == l) (filter q xs) ≡ true
any_in_filter q l [] passes h = h
any_in_filter q l (x ∷ xs) passes h =
    elim (or_cases (x == l) (list_any (λ k. k == l) xs) h) [
      | inl same ↦ kept_there (λ k. k == l) x (filter q xs) (q x) (ap q (eqb-true x l same) ∙ passes) same
      | inr rest ↦ kept_behind (λ k. k == l) x (filter q xs) (q x) (any_in_filter q l xs passes rest)
    ]

-- a lock that more than one thread takes is nobody's
lent_passes : (T : List Event) (threads : ℕ) (takers : List ℕ) → AreTakers T threads takers → (l : ℕ) → IsLent T l → is_lent takers threads l ≡ true
lent_passes T threads takers are l lent =
    let (t, u, ne, one, other) = lent in
    elim (cases_lt (slice_index takers l) threads) [
      | inl lt ↦ absurd (ne (sym (are one.0 t l one.1 one.2 lt) ∙ are other.0 u l other.1 other.2 lt))
      | inr ge ↦ ap not (le-ltb (slice_index takers l) threads ge)
    ]

-- A list that is numbered has the locks of the thread that it was made for, in whatever order.
pub AreLocksOfThread-from : (T : List Event) (lists held : List (Vec ℕ Global)) (threads : ℕ) (takers : List ℕ) (n k t : ℕ) (u : Vec ℕ Global) (made : List ℕ) → AreTakers T threads takers
    → AreHeld T n held → slice_get held t ≡ Some u → IsPermutation (filter (is_lent takers threads) u.items) made → text_at lists k ≡ Some made → AreLocksOfThread T lists n t k
AreLocksOfThread-from T lists held threads takers n k t u made are_takers are is shuffled listed =
    let kept = is_lent takers threads in
    let found = found_list (slice_get lists k) made listed in
    let any : (l : ℕ) → list_any (λ m. m == l) (filter kept u.items) ≡ list_any (λ m. m == l) found.0.items =
    λ l. list_any-IsPermutation (λ m. m == l) (filter kept u.items) made shuffled ∙ ap (list_any (λ m. m == l)) (sym found.2) in
    record {
      locks = found.0;
      at = found.1;
      held = λ l stands.
          let there = any_of_filter kept (λ m. m == l) u.items (any l ∙ stands) in
          let some = count_from_any (λ m. m == l) u.items there in
          let same : times l u.items ≡ hold_count (take n T) t l = are t u l is in
          omega (arith, some, same);
      lent = λ l holds lent.
          let same : times l u.items ≡ hold_count (take n T) t l = are t u l is in
          let there = list_any-from_count (λ m. m == l) (λ m. m == l) u.items (λ m passes. passes) (omega (arith, holds, same)) in
          sym (any l) ∙ any_in_filter kept l u.items (lent_passes T threads takers are_takers l lent) there;
    }

-- the thread's list is that of its event
pub AreLocksOf-thread : (T : List Event) (lists : List (Vec ℕ Global)) (n t k : ℕ) → thread_at T n ≡ Some t → AreLocksOfThread T lists n t k → AreLocksOf T lists n k
AreLocksOf-thread T lists n t k is of = record {
  locks = of.locks;
  at = of.at;
  held = λ l stands. (t, is, of.held l stands);
  lent = λ l holds lent. of.lent l (subst (λ s. 0 < hold_count (take n T) s l) (same_Some holds.0 t (sym holds.1 ∙ is)) holds.2) lent;
}

-- a list more, of a thread that holds nothing
pub AreHeld-push : (T : List Event) (held after : List (Vec ℕ Global)) (w : Vec ℕ Global) → AreHeld T 0 held → after ≡ held ++ w ∷ [] → w.items ≡ [] → AreHeld T 0 after
AreHeld-push T held after w are is empty t v l found =
    elim (get_either held w t v (ap (λ xs. slice_get xs t) (sym is) ∙ found)) [
      | inl old ↦ are t v l old
      | inr mine ↦ ap (λ (x : Vec ℕ Global). times l x.items) (sym mine) ∙ ap (times l) empty
    ]
