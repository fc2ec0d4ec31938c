-- Two independent neighbours may change places: what stands after them sees no difference.
use Rattle.std.proofs.Common.{◌≡◌, ◌≢◌, ◌↔◌, ℕ, zero, suc, ◌+◌, ◌<◌, ◌≤◌, ◌==◌, ◌&&◌, Bool, true, false, cond, List, [], ◌∷◌, ◌++◌, length, take, drop, reverse, get_or, slice_index, find, count_by, Contains, Option, Some, None, IfSome, slice_get, option_map, sym, refl, ap, ◌∙◌, subst, arith, inl, inr}
use Rattle.std.proofs.lemmas.Bool.{cases_lt, eq-eqb, ne_eqb, and_right, or_left, or_right, false_from_ne_true, cond-true, cond-false}
use Rattle.std.proofs.lemmas.List.{append_assoc, append-nil, take_at, length-append}
use Rattle.std.proofs.lemmas.List.Elements.{Contains-append_left, Contains-append_right, Contains-append_cases}
use Rattle.std.proofs.lemmas.Option.{same_Some, none-some, slice_get-get_or, slice_get_past}
use Rattle.rapid_text.specs.Operations.{is_read, is_write, is_acquire, is_release, is_fork}
use Rattle.rapid_text.specs.declared.event.Event.{Event}
use Rattle.rapid_text.specs.declared.event.Op.{Op}
use Rattle.rapid_text.specs.declared.event.Op.TheVariants.{Read, Acquire, Fork, Join}
use Rattle.rapid_text.proofs.CallerLemmas.{fork-from_test}
use Rattle.trace_rules.specs.Rules.{acquire_count, release_count}
use Rattle.event_index.specs.Events.{op_at, thread_at, passes_by, passes_at, is_of_thread, is_write_at}
use Rattle.event_index.specs.Lookups.{events_of, last_write, fork_of}
use Rattle.event_index.specs.Relations.{is_access, is_on_lock, IsIndependent, is_independent}
use Rattle.event_index.proofs.CallerLemmas.{fork_of-some, Decides-is_independent, IsIndependent-sym}
use Rattle.schedule.specs.Locks.{is_acquire_by, is_release_by}
use Rattle.schedule.specs.Refusals.{next_of}
use Rattle.schedule.specs.Reordering.{IsCorrectReordering, StandsAfterThread, events_at}
use Rattle.schedule.specs.Swaps.{exchanged, MayExchange, pair_refusal, swap_refusal}
use Rattle.schedule.specs.declared.refusal.SwapRefusal.{SwapRefusal}
use Rattle.schedule.specs.declared.refusal.SwapRefusal.TheVariants.{NoSuchPair, Dependent}
use Rattle.schedule.proofs.CountLemmas.{count_by-events_at}
use Rattle.schedule.proofs.EnabledLemmas.{Allows, IsCorrectReordering-take, IsEnabled-allowed, Allows-enabled}
use Rattle.schedule.proofs.ExchangeLemmas.{at_pair, exchanged-at_pair, get_or-exchanged_first, get_or-exchanged_second, length-exchanged}
use Rattle.schedule.proofs.LockLemmas.{find-reverse_push, counts_push}

-- what an event sees alike after two lists
record IsAlike (T : List Event) (P Q : List ℕ) : Type 0 where
  writes : (x : ℕ) → last_write T x P ≡ last_write T x Q
  counts : (p : ℕ → Bool) → count_by p P ≡ count_by p Q
  members : (d : ℕ) → Contains P d → Contains Q d

IsAlike-push : (T : List Event) (P Q : List ℕ) (e : ℕ) → IsAlike T P Q → IsAlike T (P ++ e ∷ []) (Q ++ e ∷ [])
IsAlike-push T P Q e alike = record {
  writes = λ x.
      find-reverse_push (is_write_at T x) P e
      ∙ ap (cond (is_write_at T x e) (Some e)) (alike.writes x)
      ∙ sym (find-reverse_push (is_write_at T x) Q e);
  counts = λ p. counts_push p P e ∙ ap (λ n. n + cond (p e) 1 0) (alike.counts p) ∙ sym (counts_push p Q e);
  members = λ d within.
      elim (Contains-append_cases P (e ∷ []) d within) [
        | inl earlier ↦ Contains-append_left Q (e ∷ []) d (alike.members d earlier)
        | inr last ↦ Contains-append_right Q (e ∷ []) d last
      ];
}

-- so what the one allows the other allows
Allows-alike : (T : List Event) (P Q : List ℕ) (e : ℕ) → IsAlike T P Q → Allows T P e → Allows T Q e
Allows-alike T P Q e alike a = record {
  v = a.v;
  found = a.found;
  next = ap (slice_get (events_of T a.v.thread)) (sym (alike.counts (is_of_thread T a.v.thread))) ∙ a.next;
  forked = λ t f of forks. alike.members f (a.forked t f of forks);
  writer = λ x at. sym (alike.writes x) ∙ a.writer x at;
  lock = λ l u at other.
      let acquires : count_by (is_acquire_by T u l) P ≡ count_by (is_acquire_by T u l) Q = alike.counts (is_acquire_by T u l) in
      let releases : count_by (is_release_by T u l) P ≡ count_by (is_release_by T u l) Q = alike.counts (is_release_by T u l) in
      let even : acquire_count (events_at T P) u l ≡ release_count (events_at T P) u l = a.lock l u at other in
      sym (count_by-events_at T (λ v. v.thread == u && is_acquire l v.op) P ∙ acquires ∙ sym (count_by-events_at T (λ v. v.thread == u && is_acquire l v.op) Q))
      ∙ even
      ∙ (count_by-events_at T (λ v. v.thread == u && is_release l v.op) P ∙ releases ∙ sym (count_by-events_at T (λ v. v.thread == u && is_release l v.op) Q));
  ended = λ u at.
      let after : StandsAfterThread T P u = a.ended u at in
      record {
        events = λ d of. alike.members d (after.events d of);
        fork = λ f forks. alike.members f (after.fork f forks);
      };
}

-- the front of a correct reordering is one
pub front_is : (T : List Event) (P B : List ℕ) → IsCorrectReordering T (P ++ B) → IsCorrectReordering T P
front_is T P B is =
    let fits : length P ≤ length (P ++ B) = omega (arith, length-append P B) in
    subst (IsCorrectReordering T) (take_at P B (length P) refl) (IsCorrectReordering-take T (P ++ B) (length P) fits is)

-- what may follow the one may follow the other
alike_is : (T : List Event) (P Q B : List ℕ) → IsAlike T P Q → IsCorrectReordering T Q → IsCorrectReordering T (P ++ B) → IsCorrectReordering T (Q ++ B)
alike_is T P Q [] alike q is = subst (IsCorrectReordering T) (sym (append-nil Q)) q
alike_is T P Q (e ∷ B) alike q is =
    let whole : IsCorrectReordering T ((P ++ e ∷ []) ++ B) =
    subst (IsCorrectReordering T) (sym (append_assoc P (e ∷ []) B)) is in
    let a : Allows T P e = Allows-enabled T P e (front_is T (P ++ e ∷ []) B whole) in
    let q_more : IsCorrectReordering T (Q ++ e ∷ []) = IsEnabled-allowed T Q e q (Allows-alike T P Q e alike a) in
    subst (IsCorrectReordering T) (append_assoc Q (e ∷ []) B)
    (alike_is T (P ++ e ∷ []) (Q ++ e ∷ []) B (IsAlike-push T P Q e alike) q_more whole)

only_member : (a d : ℕ) → Contains (a ∷ []) d → a ≡ d
only_member a d (zero, lt, at) = at
only_member a d (suc k, lt, at) = absurd (omega arith)

-- a member that is not the last event stands before it
before_last : (A : List ℕ) (a d : ℕ) → Contains (A ++ a ∷ []) d → a ≢ d → Contains A d
before_last A a d within other =
    elim (Contains-append_cases A (a ∷ []) d within) [
      | inl earlier ↦ earlier
      | inr last ↦ absurd (other (only_member a d last))
    ]

-- an event that fails the test is not counted
count_past : (p : ℕ → Bool) (A : List ℕ) (a : ℕ) → p a ≡ false → count_by p (A ++ a ∷ []) ≡ count_by p A
count_past p A a fails = counts_push p A a ∙ ap (λ c. count_by p A + cond c 1 0) fails ∙ omega arith

-- the event b, after a list and after that list and an event a that is independent of it
module _ (T : List Event) (A : List ℕ) (a b : ℕ) (i : IsIndependent T a b) where
  passes : (test : Event → Bool) → passes_at test T a ≡ test i.v
  passes test = ap (passes_by test) i.first

  op_b : (op : Op) → op_at T b ≡ Some op → i.w.op ≡ op
  op_b op at = same_Some i.w.op op (sym (ap (option_map (λ (x : Event). x.op)) i.second) ∙ at)

  thread_b : (t : ℕ) → thread_at T b ≡ Some t → i.w.thread ≡ t
  thread_b t of = same_Some i.w.thread t (sym (ap (option_map (λ (x : Event). x.thread)) i.second) ∙ of)

  next_past : next_of T (A ++ a ∷ []) i.w.thread ≡ next_of T A i.w.thread
  next_past =
      let other : is_of_thread T i.w.thread a ≡ false =
      passes (λ x. x.thread == i.w.thread) ∙ ne_eqb i.v.thread i.w.thread i.apart.threads in
      ap (slice_get (events_of T i.w.thread)) (count_past (is_of_thread T i.w.thread) A a other)

  write_past : (x : ℕ) → op_at T b ≡ Some (Read x) → last_write T x (A ++ a ∷ []) ≡ last_write T x A
  write_past x at =
      let reads : is_access x i.w.op ≡ true =
      or_left (is_read x i.w.op) (is_write x i.w.op) (ap (is_read x) (op_b (Read x) at) ∙ eq-eqb x x refl) in
      let no_write : is_write x i.v.op ≡ false =
      false_from_ne_true (is_write x i.v.op)
      (λ writes.
      i.apart.no_clash
      (record {
        threads = i.apart.threads;
        variable = x;
        first = or_right (is_read x i.v.op) (is_write x i.v.op) writes;
        second = reads;
        writes = or_left (is_write x i.v.op) (is_write x i.w.op) writes;
      })) in
      find-reverse_push (is_write_at T x) A a
      ∙ cond-false (is_write_at T x a) (Some a) (last_write T x A) (passes (λ v. is_write x v.op) ∙ no_write)

  off_lock : (l : ℕ) → op_at T b ≡ Some (Acquire l) → (is_on_lock l i.v.op ≡ true) → ⊥
  off_lock l at on =
      i.apart.no_lock l on
      (or_left (is_acquire l i.w.op) (is_release l i.w.op) (ap (is_acquire l) (op_b (Acquire l) at) ∙ eq-eqb l l refl))

  acquires_past : (l u : ℕ) → op_at T b ≡ Some (Acquire l) → acquire_count (events_at T (A ++ a ∷ [])) u l ≡ acquire_count (events_at T A) u l
  acquires_past l u at =
      let test : Event → Bool = λ (x : Event). x.thread == u && is_acquire l x.op in
      let none : is_acquire l i.v.op ≡ false =
      false_from_ne_true (is_acquire l i.v.op) (λ takes. off_lock l at (or_left (is_acquire l i.v.op) (is_release l i.v.op) takes)) in
      let fails : passes_at test T a ≡ false = passes test ∙ and_right (i.v.thread == u) (is_acquire l i.v.op) none in
      count_by-events_at T test (A ++ a ∷ []) ∙ count_past (passes_at test T) A a fails ∙ sym (count_by-events_at T test A)

  releases_past : (l u : ℕ) → op_at T b ≡ Some (Acquire l) → release_count (events_at T (A ++ a ∷ [])) u l ≡ release_count (events_at T A) u l
  releases_past l u at =
      let test : Event → Bool = λ (x : Event). x.thread == u && is_release l x.op in
      let none : is_release l i.v.op ≡ false =
      false_from_ne_true (is_release l i.v.op) (λ frees. off_lock l at (or_right (is_acquire l i.v.op) (is_release l i.v.op) frees)) in
      let fails : passes_at test T a ≡ false = passes test ∙ and_right (i.v.thread == u) (is_release l i.v.op) none in
      count_by-events_at T test (A ++ a ∷ []) ∙ count_past (passes_at test T) A a fails ∙ sym (count_by-events_at T test A)

  forks_a : (t : ℕ) → fork_of T t ≡ Some a → i.v.op ≡ Fork t
  forks_a t forks = fork-from_test t i.v.op (sym (passes (λ x. is_fork t x.op)) ∙ (fork_of-some T t a forks).1)

  -- what b needs stands before a
  fork_before : (f : ℕ) → fork_of T i.w.thread ≡ Some f → a ≢ f
  fork_before f forks same = i.apart.first_no_fork (forks_a i.w.thread (forks ∙ ap Some (sym same)))

  joined_fork_before : (u f : ℕ) → op_at T b ≡ Some (Join u) → fork_of T u ≡ Some f → a ≢ f
  joined_fork_before u f at forks same =
      i.apart.no_fork_and_join u (forks_a u (forks ∙ ap Some (sym same))) (op_b (Join u) at)

  joined_event_before : (u d : ℕ) → op_at T b ≡ Some (Join u) → thread_at T d ≡ Some u → a ≢ d
  joined_event_before u d at of same =
      let mine : i.v.thread ≡ u =
      same_Some i.v.thread u (sym (ap (option_map (λ (x : Event). x.thread)) i.first) ∙ ap (thread_at T) same ∙ of) in
      i.apart.second_no_join (op_b (Join u) at ∙ ap Join (sym mine))

  event_next : (P : List ℕ) → (y : Allows T P b) → next_of T P i.w.thread ≡ Some b
  event_next P y =
      let same : y.v ≡ i.w = same_Some y.v i.w (sym y.found ∙ i.second) in
      ap (λ (x : Event). next_of T P x.thread) (sym same) ∙ y.next

  -- allowed after a, it is allowed before it
  pub Allows-sooner : Allows T (A ++ a ∷ []) b → Allows T A b
  Allows-sooner y = record {
    v = i.w;
    found = i.second;
    next = sym next_past ∙ event_next (A ++ a ∷ []) y;
    forked = λ t f of forks.
        before_last A a f (y.forked t f of forks) (fork_before f (ap (fork_of T) (thread_b t of) ∙ forks));
    writer = λ x at. sym (write_past x at) ∙ y.writer x at;
    lock = λ l u at other. sym (acquires_past l u at) ∙ y.lock l u at other ∙ releases_past l u at;
    ended = λ u at.
        let after : StandsAfterThread T (A ++ a ∷ []) u = y.ended u at in
        record {
          events = λ d of. before_last A a d (after.events d of) (joined_event_before u d at of);
          fork = λ f forks. before_last A a f (after.fork f forks) (joined_fork_before u f at forks);
        };
  }

  -- allowed before a, it is allowed after it
  pub Allows-later : Allows T A b → Allows T (A ++ a ∷ []) b
  Allows-later y = record {
    v = i.w;
    found = i.second;
    next = next_past ∙ event_next A y;
    forked = λ t f of forks. Contains-append_left A (a ∷ []) f (y.forked t f of forks);
    writer = λ x at. write_past x at ∙ y.writer x at;
    lock = λ l u at other. acquires_past l u at ∙ y.lock l u at other ∙ sym (releases_past l u at);
    ended = λ u at.
        let after : StandsAfterThread T A u = y.ended u at in
        record {
          events = λ d of. Contains-append_left A (a ∷ []) d (after.events d of);
          fork = λ f forks. Contains-append_left A (a ∷ []) f (after.fork f forks);
        };
  }

-- of two that do not both pass, the last that passes is the same in either order
pub last_of_either : (p q : Bool) (a b : ℕ) (rest : Option ℕ) → (p ≡ true → q ≡ true → ⊥) → cond q (Some b) (cond p (Some a) rest) ≡ cond p (Some a) (cond q (Some b) rest)
last_of_either true true a b rest never = absurd (never refl refl)
last_of_either true false a b rest never = refl
last_of_either false true a b rest never = refl
last_of_either false false a b rest never = refl

-- what follows the two sees no difference
IsAlike-pair : (T : List Event) (A : List ℕ) (a b : ℕ) → IsIndependent T a b → IsAlike T ((A ++ a ∷ []) ++ b ∷ []) ((A ++ b ∷ []) ++ a ∷ [])
IsAlike-pair T A a b i = record {
  writes = λ x.
      let p : ℕ → Bool = is_write_at T x in
      let both_write : p a ≡ true → p b ≡ true → ⊥ =
      λ wa wb.
      let first : is_write x i.v.op ≡ true = sym (ap (passes_by (λ (v : Event). is_write x v.op)) i.first) ∙ wa in
      let second : is_write x i.w.op ≡ true = sym (ap (passes_by (λ (v : Event). is_write x v.op)) i.second) ∙ wb in
      i.apart.no_clash
      (record {
        threads = i.apart.threads;
        variable = x;
        first = or_right (is_read x i.v.op) (is_write x i.v.op) first;
        second = or_right (is_read x i.w.op) (is_write x i.w.op) second;
        writes = or_left (is_write x i.v.op) (is_write x i.w.op) first;
      }) in
      find-reverse_push p (A ++ a ∷ []) b
      ∙ ap (cond (p b) (Some b)) (find-reverse_push p A a)
      ∙ last_of_either (p a) (p b) a b (find p (reverse A)) both_write
      ∙ sym (find-reverse_push p (A ++ b ∷ []) a ∙ ap (cond (p a) (Some a)) (find-reverse_push p A b));
  counts = λ p.
      omega (
        arith,
        counts_push p (A ++ a ∷ []) b,
        counts_push p A a,
        counts_push p (A ++ b ∷ []) a,
        counts_push p A b,
      );
  members = λ d within.
      elim (Contains-append_cases (A ++ a ∷ []) (b ∷ []) d within) [
        | inl sooner ↦
            elim (Contains-append_cases A (a ∷ []) d sooner) [
              | inl earlier ↦
                  Contains-append_left (A ++ b ∷ []) (a ∷ []) d (Contains-append_left A (b ∷ []) d earlier)
              | inr is_a ↦ Contains-append_right (A ++ b ∷ []) (a ∷ []) d is_a
            ]
        | inr is_b ↦ Contains-append_left (A ++ b ∷ []) (a ∷ []) d (Contains-append_right A (b ∷ []) d is_b)
      ];
}

-- two independent neighbours may change places
pair_is : (T : List Event) (A B : List ℕ) (a b : ℕ) → IsIndependent T a b → IsCorrectReordering T (((A ++ a ∷ []) ++ b ∷ []) ++ B) → IsCorrectReordering T (((A ++ b ∷ []) ++ a ∷ []) ++ B)
pair_is T A B a b i is =
    let both : IsCorrectReordering T ((A ++ a ∷ []) ++ b ∷ []) = front_is T ((A ++ a ∷ []) ++ b ∷ []) B is in
    let one : IsCorrectReordering T (A ++ a ∷ []) = front_is T (A ++ a ∷ []) (b ∷ []) both in
    let none : IsCorrectReordering T A = front_is T A (a ∷ []) one in
    let b_first : Allows T A b = Allows-sooner T A a b i (Allows-enabled T (A ++ a ∷ []) b both) in
    let a_second : Allows T (A ++ b ∷ []) a =
    Allows-later T A b a (IsIndependent-sym T a b i) (Allows-enabled T A a one) in
    let other : IsCorrectReordering T ((A ++ b ∷ []) ++ a ∷ []) =
    IsEnabled-allowed T (A ++ b ∷ []) a (IsEnabled-allowed T A b none b_first) a_second in
    alike_is T ((A ++ a ∷ []) ++ b ∷ []) ((A ++ b ∷ []) ++ a ∷ []) B (IsAlike-pair T A a b i) other is

pub IsCorrectReordering-exchanged : (T : List Event) (P : List ℕ) (i : ℕ) → MayExchange T P i → IsCorrectReordering T P → IsCorrectReordering T (exchanged P i)
IsCorrectReordering-exchanged T P i may is =
    subst (IsCorrectReordering T) (sym (exchanged-at_pair P i may.within))
    (pair_is T (take i P) (drop (i + 2) P) (get_or P i 0) (get_or P (i + 1) 0) may.apart
    (subst (IsCorrectReordering T) (at_pair P i may.within) is))

-- what was exchanged may be exchanged back
pub MayExchange-exchanged : (T : List Event) (P : List ℕ) (i : ℕ) → MayExchange T P i → MayExchange T (exchanged P i) i
MayExchange-exchanged T P i may = record {
  within = omega (arith, may.within, length-exchanged P i);
  apart = subst (λ (e : ℕ). IsIndependent T e (get_or (exchanged P i) (i + 1) 0)) (sym (get_or-exchanged_first P i may.within))
      (subst (IsIndependent T (get_or P (i + 1) 0)) (sym (get_or-exchanged_second P i may.within))
      (IsIndependent-sym T (get_or P i 0) (get_or P (i + 1) 0) may.apart));
}

no_second : (T : List Event) (o : Option ℕ) → pair_refusal T o None ≡ Some NoSuchPair
no_second T None = refl
no_second T (Some a) = refl

-- a swap is refused for the place where no event stands at the next one
pub swap_refusal-past : (T : List Event) (P : List ℕ) (i : ℕ) → length P ≤ i + 1 → swap_refusal T P i ≡ Some NoSuchPair
unfolding swap_refusal
swap_refusal-past T P i past =
    ap (pair_refusal T (slice_get P i)) (slice_get_past P (i + 1) past) ∙ no_second T (slice_get P i)

-- and else where the two are not independent
pub swap_refusal-within : (T : List Event) (P : List ℕ) (i : ℕ) → i + 1 < length P → swap_refusal T P i ≡ cond (is_independent T (get_or P i 0) (get_or P (i + 1) 0)) None (Some Dependent)
unfolding swap_refusal
swap_refusal-within T P i within =
    let lt : i < length P = omega arith in
    ap (λ o. pair_refusal T o (slice_get P (i + 1))) (slice_get-get_or P i 0 lt)
    ∙ ap (pair_refusal T (Some (get_or P i 0))) (slice_get-get_or P (i + 1) 0 within)

pub swap_refusal-pair : (T : List Event) (P : List ℕ) (i a b : ℕ) → slice_get P i ≡ Some a → slice_get P (i + 1) ≡ Some b → swap_refusal T P i ≡ pair_refusal T (Some a) (Some b)
unfolding swap_refusal
swap_refusal-pair T P i a b first second =
    ap (λ o. pair_refusal T o (slice_get P (i + 1))) first ∙ ap (pair_refusal T (Some a)) second

-- the cause of a pair, told by the relation
pub pair_refusal-told :
    (T : List Event) (a b : ℕ) (r : Option SwapRefusal)
    → ((r ≡ None) ↔ IsIndependent T a b) → IfSome r (λ cause. cause ≡ Dependent)
    → r ≡ pair_refusal T (Some a) (Some b)
pair_refusal-told T a b None free tied =
    sym (cond-true (is_independent T a b) None (Some Dependent) ((Decides-is_independent T a b).1 (free.0 refl)))
pair_refusal-told T a b (Some cause) free tied =
    ap Some tied
    ∙ sym (cond-false (is_independent T a b) None (Some Dependent) (false_from_ne_true (is_independent T a b) (λ h. none-some cause (sym (free.1 ((Decides-is_independent T a b).0 h))))))

pub swap_refusal-tied : (T : List Event) (P : List ℕ) (i : ℕ) → i + 1 < length P → ¬ IsIndependent T (slice_index P i) (slice_index P (i + 1)) → swap_refusal T P i ≡ Some Dependent
swap_refusal-tied T P i within tied =
    let test : Bool = is_independent T (get_or P i 0) (get_or P (i + 1) 0) in
    swap_refusal-within T P i within
    ∙ cond-false test None (Some Dependent) (false_from_ne_true test (λ h. tied ((Decides-is_independent T (get_or P i 0) (get_or P (i + 1) 0)).0 h)))

-- nothing refuses an exchange exactly where it may be made
pub swap_refusal-may : (T : List Event) (P : List ℕ) (i : ℕ) → MayExchange T P i → swap_refusal T P i ≡ None
swap_refusal-may T P i may =
    swap_refusal-within T P i may.within
    ∙ cond-true (is_independent T (get_or P i 0) (get_or P (i + 1) 0)) None (Some Dependent) ((Decides-is_independent T (get_or P i 0) (get_or P (i + 1) 0)).1 may.apart)

no_dependence : (t : Bool) → cond t None (Some Dependent) ≡ None → t ≡ true
no_dependence true h = refl
no_dependence false h = absurd (none-some Dependent (sym h))

pub MayExchange-none : (T : List Event) (P : List ℕ) (i : ℕ) → swap_refusal T P i ≡ None → MayExchange T P i
MayExchange-none T P i none =
    elim (cases_lt (i + 1) (length P)) [
      | inl within ↦
          record {
            within = within;
            apart = (Decides-is_independent T (get_or P i 0) (get_or P (i + 1) 0)).0
                (no_dependence (is_independent T (get_or P i 0) (get_or P (i + 1) 0)) (sym (swap_refusal-within T P i within) ∙ none));
          }
      | inr past ↦ absurd (none-some NoSuchPair (sym none ∙ swap_refusal-past T P i past))
    ]

not_no_pair : (t : Bool) → cond t None (Some Dependent) ≡ Some NoSuchPair → ⊥
not_no_pair true h = none-some NoSuchPair h
not_no_pair false h = cc

-- the two causes
pub swap_refusal-no_pair : (T : List Event) (P : List ℕ) (i : ℕ) → swap_refusal T P i ≡ Some NoSuchPair → length P ≤ i + 1
swap_refusal-no_pair T P i refused =
    elim (cases_lt (i + 1) (length P)) [
      | inl within ↦
          absurd (not_no_pair (is_independent T (get_or P i 0) (get_or P (i + 1) 0)) (sym (swap_refusal-within T P i within) ∙ refused))
      | inr past ↦ past
    ]

pub swap_refusal-dependent : (T : List Event) (P : List ℕ) (i : ℕ) → swap_refusal T P i ≡ Some Dependent → (i + 1 < length P) × ¬ IsIndependent T (slice_index P i) (slice_index P (i + 1))
swap_refusal-dependent T P i refused =
    elim (cases_lt (i + 1) (length P)) [
      | inl within ↦ (
        within,
        λ apart. none-some Dependent (sym (swap_refusal-may T P i (record { within = within; apart = apart })) ∙ refused),
      )
      | inr past ↦
          let other : Some NoSuchPair ≡ Some Dependent = sym (swap_refusal-past T P i past) ∙ refused in cc
    ]
