-- In a trace that keeps the rules, the events of a set that is closed downwards under SHB are a correct
-- reordering, in the order of the trace.
use Rattle.std.proofs.Common.{◌≡◌, ◌≢◌, ℕ, zero, suc, ◌<◌, ◌≤◌, ◌==◌, ◌&&◌, Bool, true, List, length, take, count_by, Contains, Some, slice_get, sym, ap, ◌∙◌, subst, arith, add-one, inl, inr}
use Rattle.std.proofs.lemmas.Bool.{cases_Bool, and_parts}
use Rattle.std.proofs.lemmas.Option.{same_Some, slice_get_within}
use Rattle.rapid_text.specs.Operations.{is_acquire, is_release}
use Rattle.rapid_text.specs.declared.event.Event.{Event}
use Rattle.rapid_text.specs.declared.event.Op.TheVariants.{Acquire, Release}
use Rattle.trace_rules.specs.Rules.{IsDisciplined, acquire_count, release_count, hold_count}
use Rattle.trace_rules.proofs.CallerLemmas.{release-from_test}
use Rattle.event_index.specs.Events.{op_at, passes_at, is_of_thread, is_write_at}
use Rattle.event_index.specs.Lookups.{before, events_of, place_of, last_write, last_writer, last_writer_by}
use Rattle.event_index.proofs.CallerLemmas.{events_of-place, fork_of-op, place_of-count, passes_event}
use Rattle.shb_clocks.specs.HappensBefore.{Edge, in_thread, by_lock, by_fork, by_join, from_fork_to_join, by_writer}
use Rattle.shb_clocks.proofs.CallerLemmas.{Edge-earlier, thread_here, op_here, is_of_thread-thread}
use Rattle.schedule.specs.Refusals.{next_of}
use Rattle.schedule.specs.Reordering.{IsCorrectReordering, FindsLockFree, events_at}
use Rattle.schedule.proofs.CallerLemmas.{IsCorrectReordering-nil, Allows, IsEnabled-allowed, count_by-events_at, releases_within_list}
use Rattle.witness_search.specs.Layout.{IsClosedTest, kept}
use Rattle.witness_search.proofs.KeptLemmas.{event_there, kept_yes, kept_no, kept_member, count_by-kept, count_by-kept_le, count_by-before, find_last-kept}

-- a release by the thread
released_by : (T : List Event) (u l d : ℕ) → passes_at (λ v. v.thread == u && is_release l v.op) T d ≡ true → op_at T d ≡ Some (Release l)
released_by T u l d passes =
    let found = passes_event (λ v. v.thread == u && is_release l v.op) T d passes in
    let v = found.0 in
    op_here T d v found.1 ∙ ap Some (release-from_test l v.op (and_parts (v.thread == u) (is_release l v.op) found.2).1)

module _ (T : List Event) (rules : IsDisciplined T) (test : ℕ → Bool) (closed : IsClosedTest T test) where
  -- what an edge leads from stands before it among those that pass
  source_in : (d e : ℕ) → Edge T d e → test e ≡ true → Contains (kept test e) d
  source_in d e edge so = kept_member test e d (Edge-earlier T rules d e edge) (closed d e edge so)

  module _ (e : ℕ) (v : Event) (found : slice_get T e ≡ Some v) (so : test e ≡ true) where
    -- all earlier events of its thread pass
    next_in_thread : next_of T (kept test e) v.thread ≡ Some e
    next_in_thread =
        let fits = slice_get_within T e v found in
        let passes = λ (d : ℕ) (early : d < e) (of : is_of_thread T v.thread d ≡ true). closed d e (in_thread v.thread early (is_of_thread-thread T v.thread d of) (thread_here T e v found)) so in
        let place : count_by (is_of_thread T v.thread) (kept test e) ≡ place_of T e =
        count_by-kept (is_of_thread T v.thread) test e passes ∙ count_by-before T (λ w. w.thread == v.thread) e (omega (arith, fits)) ∙ sym (place_of-count T e v found) in
        ap (slice_get (events_of T v.thread)) place ∙ events_of-place T e v found

    -- all earlier releases of the lock pass, and the trace has as many of them as acquires
    lock_in : IsCorrectReordering T (kept test e) → FindsLockFree T (kept test e) e
    lock_in is l u takes other =
        let fits : e ≤ length T = omega (arith, slice_get_within T e v found) in
        let apart : u ≢ v.thread = λ same. other (thread_here T e v found ∙ ap Some (sym same)) in
        let op : v.op ≡ Acquire l = same_Some v.op (Acquire l) (sym (op_here T e v found) ∙ takes) in
        let frees : Event → Bool = λ w. w.thread == u && is_release l w.op in
        let gets : Event → Bool = λ w. w.thread == u && is_acquire l w.op in
        let free : hold_count (take e T) u l ≡ 0 = rules.acquires_free e l u v found op apart in
        let released : release_count (events_at T (kept test e)) u l ≡ release_count (take e T) u l =
        count_by-events_at T frees (kept test e)
        ∙ count_by-kept (passes_at frees T) test e (λ d early passes. closed d e (by_lock l early (released_by T u l d passes) takes) so)
        ∙ count_by-before T frees e fits in
        let taken : acquire_count (events_at T (kept test e)) u l ≡ count_by (passes_at gets T) (kept test e) = count_by-events_at T gets (kept test e) in
        let in_trace : count_by (passes_at gets T) (before e) ≡ acquire_count (take e T) u l = count_by-before T gets e fits in
        let within = releases_within_list T (kept test e) u l rules (is.thread_order u) in
        omega (arith, free, released, taken, in_trace, count_by-kept_le (passes_at gets T) test e, within)

    -- the last writer passes, so it is the last write of those that pass
    allowed : IsCorrectReordering T (kept test e) → Allows T (kept test e) e
    allowed is = record {
      v = v;
      found = found;
      next = next_in_thread;
      forked = λ t f of forks. source_in f e (by_fork t (fork_of-op T t f forks) of) so;
      writer = λ x reads.
          let seen : last_writer T e ≡ last_write T x (before e) = ap (last_writer_by T e) reads in
          find_last-kept (is_write_at T x) test e (λ w last. closed w e (by_writer (seen ∙ last)) so) ∙ sym seen;
      lock = lock_in is;
      ended = λ u joins. record {
        events = λ d of. source_in d e (by_join u of joins) so;
        fork = λ f forks. source_in f e (from_fork_to_join u (fork_of-op T u f forks) joins) so;
      };
    }

  -- The first events that pass are a correct reordering.
  pub IsCorrectReordering-kept_below : (n : ℕ) → n ≤ length T → IsCorrectReordering T (kept test n)
  IsCorrectReordering-kept_below zero fits = IsCorrectReordering-nil T
  IsCorrectReordering-kept_below (suc n) fits =
      let rest : IsCorrectReordering T (kept test n) = IsCorrectReordering-kept_below n (omega arith) in
      let (v, found) = event_there T n (omega arith) in
      subst (λ (k : ℕ). IsCorrectReordering T (kept test k)) (add-one n)
      (elim (cases_Bool (test n)) [
        | inl so ↦ rw (kept_yes test n so) (IsEnabled-allowed T (kept test n) n rest (allowed n v found so rest))
        | inr fails ↦ rw (kept_no test n fails) rest
      ])

  -- All events that pass are one.
  pub IsCorrectReordering-kept : IsCorrectReordering T (kept test (length T))
  IsCorrectReordering-kept = IsCorrectReordering-kept_below (length T) (omega arith)
