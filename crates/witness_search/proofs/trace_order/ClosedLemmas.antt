-- In a trace that keeps the rules, a closed set of events is a correct reordering, in the order of the trace.
use Rattle.std.proofs.Common.{◌≡◌, ◌≢◌, ℕ, zero, suc, ◌+◌, ◌<◌, ◌≤◌, ◌==◌, Bool, true, List, length, take, get_or, count_by, All, Contains, Some, slice_get, sym, ap, ◌∙◌, subst, arith, add-one, inl, inr}
use Rattle.std.proofs.lemmas.Bool.{cases_Bool, cases_lt}
use Rattle.std.proofs.lemmas.List.Elements.{All-contains}
use Rattle.std.proofs.lemmas.Option.{same_Some, slice_get_within, slice_get-get_or}
use Rattle.rapid_text.specs.declared.event.Event.{Event}
use Rattle.rapid_text.specs.declared.event.Op.TheVariants.{Read, Acquire, Fork}
use Rattle.trace_rules.specs.Rules.{IsDisciplined, hold_count}
use Rattle.event_index.specs.Events.{op_at, thread_at, is_of_thread, is_write_at}
use Rattle.event_index.specs.Lookups.{base_of, before, events_of, place_of, last_write, last_writer, last_writer_by}
use Rattle.event_index.proofs.CallerLemmas.{base_of-earlier, events_of-place, fork_of-op, place_of-count, thread_event, op_event}
use Rattle.shb_clocks.specs.HappensBefore.{by_fork}
use Rattle.shb_clocks.proofs.CallerLemmas.{Edge-earlier, base-after, base-after_fork, thread_here, is_of_thread-thread}
use Rattle.schedule.specs.Refusals.{is_in, next_of}
use Rattle.schedule.specs.Reordering.{IsCorrectReordering, SeesItsWriter, FindsLockFree, StandsAfterFork, JoinsEnded, events_at}
use Rattle.schedule.proofs.CallerLemmas.{IsCorrectReordering-nil, Allows, IsEnabled-allowed, releases_within_list, is_in-true, is_in-member}
use Rattle.witness_search.specs.Layout.{kept}
use Rattle.witness_search.proofs.KeptLemmas.{kept_yes, kept_no, kept_member, kept_below, kept_passes, count_by-kept, count_by-before, find_last-kept}
use Rattle.witness_search.proofs.RisingLemmas.{rising-kept}
use Rattle.must_order.specs.MustBefore.{Link, by_base, by_writer, by_join, from_fork_to_join, EndsFirst, IsMustBefore, same, link, section}
use Rattle.must_order.proofs.CountLemmas.{stands_at, member_before, before_member}
use Rattle.must_order.proofs.OrderLemmas.{Link-earlier, section-closed, EndsFirst-earlier, IsMustBefore-le}
use Rattle.must_order.proofs.SectionLemmas.{section_end-is}
use Rattle.must_order.proofs.TimelineLemmas.{held_since, section-since}
use Rattle.witness_search.specs.trace_order.InOrder.{EndsBetween}
use Rattle.witness_search.specs.trace_order.Laws.{IsClosedIn, IsRising}

-- a set that has the base of each of its events
module _ (T : List Event) (rules : IsDisciplined T) (S : ℕ → Type 0) (bases : (d e : ℕ) → base_of T e ≡ Some d → S e → S d) where
  -- with an event the earlier ones of its thread
  thread_up : (n a e t : ℕ) → e < n → thread_at T a ≡ Some t → thread_at T e ≡ Some t → a ≤ e → S e → S a
  thread_up zero a e t low of also le s = absurd (omega arith)
  thread_up (suc n) a e t low of also le s =
      elim (cases_lt a e) [
        | inr late ↦
            let is : e ≡ a = omega arith in
            subst S is s
        | inl early ↦
            let v = thread_event T e t also in
            let b = base-after T e v.0 v.1 a early (of ∙ ap Some (sym v.2)) in
            let first : b.0 < e = base_of-earlier T rules e b.0 b.1 in
            thread_up n a b.0 t (omega arith) of (b.2 ∙ ap Some v.2) b.3 (bases b.0 e b.1 s)
      ]

  pub base_thread : (a e t : ℕ) → thread_at T a ≡ Some t → thread_at T e ≡ Some t → a ≤ e → S e → S a
  base_thread a e t of also le s = thread_up (e + 1) a e t (omega arith) of also le s

  -- and the fork of the thread
  fork_up : (n f e u : ℕ) → e < n → op_at T f ≡ Some (Fork u) → thread_at T e ≡ Some u → S e → S f
  fork_up zero f e u low op of s = absurd (omega arith)
  fork_up (suc n) f e u low op of s =
      let v = thread_event T e u of in
      let b = base-after_fork T e v.0 v.1 rules f (op ∙ ap (λ t. Some (Fork t)) (sym v.2)) in
      let first : b.0 < e = base_of-earlier T rules e b.0 b.1 in
      let has : S b.0 = bases b.0 e b.1 s in
      elim b.2 [
        | inl also ↦ fork_up n f b.0 u (omega arith) op (also ∙ ap Some v.2) has
        | inr is ↦ subst S (sym is) has
      ]

  pub base_fork : (f e u : ℕ) → op_at T f ≡ Some (Fork u) → thread_at T e ≡ Some u → S e → S f
  base_fork f e u op of s = fork_up (e + 1) f e u (omega arith) op of s

module _ (T : List Event) (rules : IsDisciplined T) (S : ℕ → Type 0) (closed : IsClosedIn T S) where
  pub closed_thread : (a e t : ℕ) → thread_at T a ≡ Some t → thread_at T e ≡ Some t → a ≤ e → S e → S a
  closed_thread = base_thread T rules S (λ d e base. closed.links d e (by_base base))

  pub closed_fork : (f e u : ℕ) → op_at T f ≡ Some (Fork u) → thread_at T e ≡ Some u → S e → S f
  closed_fork = base_fork T rules S (λ d e base. closed.links d e (by_base base))

  -- the end of a section that began before e, where e lies in or begins one of another thread
  closed_end : (p r e : ℕ) → EndsFirst T p r e → p < e → S p → S e → S r
  closed_end p r e s early has also =
      elim s.inside [
        | inr takes ↦
            closed.sections p r e
            (record {
              lock = s.lock;
              owner = s.owner;
              thread = s.thread;
              earlier = early;
              first = s.acquires;
              second = takes;
              of_owner = s.of_owner;
              of_thread = s.of_thread;
              other = s.other;
              ends = s.ends;
            })
            has also
        | inl held ↦
            let within : e < length T = (let v = thread_event T e s.thread s.of_thread in slice_get_within T e v.0 v.1) in
            let since = held_since T rules e s.thread s.lock (omega arith) held in
            let q = since.0 in
            let o = since.1.outer in
            elim (cases_lt p q) [
              | inl below ↦
                  closed.sections p r q
                  (record {
                    lock = s.lock;
                    owner = s.owner;
                    thread = s.thread;
                    earlier = below;
                    first = s.acquires;
                    second = o.acquires;
                    of_owner = s.of_owner;
                    of_thread = o.of;
                    other = s.other;
                    ends = s.ends;
                  })
                  has (closed_thread q e s.thread o.of s.of_thread (omega (arith, since.1.early)) also)
              | inr above ↦
                  let v = op_event T p (Acquire s.lock) s.acquires in
                  let mine : v.0.thread ≡ s.owner = same_Some v.0.thread s.owner (sym (thread_here T p v.0 v.1) ∙ s.of_owner) in
                  let apart : q ≢ p = λ is. s.other (same_Some s.owner s.thread (sym s.of_owner ∙ ap (thread_at T) (sym is) ∙ o.of)) in
                  let below : q < p =
                  elim (cases_lt q p) [
                    | inl lt ↦ lt
                    | inr le ↦ absurd (apart (omega arith))
                  ] in
                  let free : hold_count (take p T) s.thread s.lock ≡ 0 =
                  rules.acquires_free p s.lock s.thread v.0 v.1 v.2 (λ is. s.other (sym (is ∙ mine))) in
                  let held_there : 0 < hold_count (take p T) s.thread s.lock = since.1.held p below (omega arith) in
                  absurd (omega (arith, free, held_there))
            ]
      ]

  -- so all that is must-before an event
  pub closed_must : (d e : ℕ) → IsMustBefore T d e → S e → S d
  closed_must d e (same _ _ is) s = subst S (sym is) s
  closed_must d e (link _ m _ must one) s = closed_must d m must (closed.links m e one s)
  closed_must d e (section _ p r _ must began ends) s =
      let low : p < e = (EndsFirst-earlier T rules p r e ends (IsMustBefore-le T rules p e began)).0 in
      closed_must d r must (closed_end p r e ends low (closed_must p e began s) s)

module _ (T : List Event) (rules : IsDisciplined T) (test : ℕ → Bool) (closed : IsClosedIn T (λ e. test e ≡ true)) where
  -- what a link leads from stands before it among those that pass
  source_in : (d e : ℕ) → Link T d e → test e ≡ true → Contains (kept test e) d
  source_in d e one so = kept_member test e d (Link-earlier T rules d e one) (closed.links d e one so)

  module _ (e : ℕ) (v : Event) (found : slice_get T e ≡ Some v) (so : test e ≡ true) where
    -- all earlier events of its thread pass
    next_in_thread : next_of T (kept test e) v.thread ≡ Some e
    next_in_thread =
        let fits : e < length T = slice_get_within T e v found in
        let all : count_by (is_of_thread T v.thread) (kept test e) ≡ count_by (is_of_thread T v.thread) (before e) =
        count_by-kept (is_of_thread T v.thread) test e
        (λ d early of. closed_thread T rules (λ k. test k ≡ true) closed d e v.thread (is_of_thread-thread T v.thread d of) (thread_here T e v found) (omega (arith, early)) so) in
        let place : count_by (is_of_thread T v.thread) (kept test e) ≡ place_of T e =
        all ∙ count_by-before T (λ w. w.thread == v.thread) e (omega arith) ∙ sym (place_of-count T e v found) in
        ap (slice_get (events_of T v.thread)) place ∙ events_of-place T e v found

    fork_in : StandsAfterFork T (kept test e) e
    fork_in t f of forks =
        let op = fork_of-op T t f forks in
        kept_member test e f (Edge-earlier T rules f e (by_fork t op of)) (closed_fork T rules (λ k. test k ≡ true) closed f e t op of so)

    -- the last writer passes, so it is the last of those that pass
    writer_in : SeesItsWriter T (kept test e) e
    writer_in x reads =
        let is : last_writer T e ≡ last_write T x (before e) = ap (last_writer_by T e) reads in
        find_last-kept (is_write_at T x) test e (λ w last. closed.links w e (by_writer (is ∙ last)) so) ∙ sym is

    joined_in : JoinsEnded T (kept test e) e
    joined_in u joins = record {
      events = λ d of. source_in d e (by_join u of joins) so;
      fork = λ f forks. source_in f e (from_fork_to_join u forks joins) so;
    }

    -- who holds the lock after those that pass holds it since one of them, whose section ends before e
    lock_in : IsCorrectReordering T (kept test e) → FindsLockFree T (kept test e) e
    lock_in is l u takes other =
        let Q : List ℕ = kept test e in
        elim (cases_lt 0 (hold_count (events_at T Q) u l)) [
          | inr none ↦ omega (arith, none, releases_within_list T Q u l rules (is.thread_order u))
          | inl holds ↦
              let found_at = stands_at T Q u (is.thread_order u) in
              let j : ℕ = found_at.0 in
              let now : 0 < hold_count (take j T) u l = omega (arith, holds, found_at.1.holds l) in
              let since = held_since T rules j u l found_at.1.within now in
              let p : ℕ = since.0 in
              let o = since.1.outer in
              let has : Contains Q p = before_member T Q u p (is.thread_order u) o.of j found_at.1 since.1.early in
              let below : p < e = kept_below test e p has in
              let apart : u ≢ v.thread = λ one. other (thread_here T e v found ∙ ap Some (sym one)) in
              absurd
              (section-closed T rules p e l u v.thread o.acquires o.of (thread_here T e v found) apart (inr takes) below
              (λ r ends.
              elim (cases_lt r e) [
                | inr late ↦ late
                | inl lt ↦
                    let s : EndsBetween T p r e = record {
                      lock = l;
                      owner = u;
                      thread = v.thread;
                      earlier = below;
                      first = o.acquires;
                      second = takes;
                      of_owner = o.of;
                      of_thread = thread_here T e v found;
                      other = apart;
                      ends = ends;
                    } in
                    let within : Contains Q r = kept_member test e r lt (closed.sections p r e s (kept_passes test e p has) so) in
                    let low : r < j = member_before T Q u r (is.thread_order u) (section_end-is T p l u r o.acquires o.of ends).2 within j found_at.1 in
                    let high : j ≤ r = section-since T rules j u l p since.1 r ends in
                    absurd (omega (arith, low, high))
              ]))
        ]

    allowed : IsCorrectReordering T (kept test e) → Allows T (kept test e) e
    allowed is = record {
      v = v;
      found = found;
      next = next_in_thread;
      forked = fork_in;
      writer = writer_in;
      lock = lock_in is;
      ended = joined_in;
    }

  -- The first events that pass are a correct reordering.
  kept_up : (n : ℕ) → n ≤ length T → IsCorrectReordering T (kept test n)
  kept_up zero fits = IsCorrectReordering-nil T
  kept_up (suc n) fits =
      let rest : IsCorrectReordering T (kept test n) = kept_up n (omega arith) in
      let v : Event = get_or T n (record { thread = 0; op = Read 0 }) in
      let found : slice_get T n ≡ Some v = slice_get-get_or T n _ (omega arith) in
      subst (λ (k : ℕ). IsCorrectReordering T (kept test k)) (add-one n)
      (elim (cases_Bool (test n)) [
        | inl so ↦ subst (IsCorrectReordering T) (sym (kept_yes test n so)) (IsEnabled-allowed T (kept test n) n rest (allowed n v found so rest))
        | inr fails ↦ subst (IsCorrectReordering T) (sym (kept_no test n fails)) rest
      ])

  pub IsCorrectReordering-kept : IsCorrectReordering T (kept test (length T))
  IsCorrectReordering-kept = kept_up (length T) (omega arith)

-- a closed list in the order of the trace is a correct reordering
pub IsCorrectReordering-closed : (T : List Event) → IsDisciplined T → (P : List ℕ) → IsRising P → All (λ e. e < length T) P → IsClosedIn T (Contains P) → IsCorrectReordering T P
IsCorrectReordering-closed T rules P rising in_trace closed =
    subst (IsCorrectReordering T)
    (sym (rising-kept P (length T) rising (λ e m. All-contains (λ (d : ℕ). d < length T) P e in_trace m)))
    (IsCorrectReordering-kept T rules (is_in P)
    (record {
      links = λ d e one so. is_in-member P d (closed.links d e one (is_in-true P e so));
      sections = λ p r e s has so. is_in-member P r (closed.sections p r e s (is_in-true P p has) (is_in-true P e so));
    }))
