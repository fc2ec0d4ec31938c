-- A request that is next and waits for another one that is next is refused by a held lock; and a request that a held
-- lock refuses is next.
use Rattle.std.proofs.Common.{◌≡◌, ◌≢◌, ℕ, ◌<◌, Bool, Decides, true, false, not, cond, List, take, get_or, All, Contains, Option, Some, None, slice_get, refl, sym, ap, ◌∙◌, subst, arith}
use Rattle.std.proofs.lemmas.Bool.{and_from}
use Rattle.std.proofs.lemmas.List.Elements.{All-contains, Contains-get_or}
use Rattle.std.proofs.lemmas.Option.{same_Some}
use Rattle.rapid_text.specs.Recording.{Recording}
use Rattle.rapid_text.specs.declared.event.Event.{Event}
use Rattle.rapid_text.specs.declared.event.Op.TheVariants.{Acquire}
use Rattle.trace_rules.specs.Rules.{hold_count}
use Rattle.event_index.specs.Events.{thread_at}
use Rattle.event_index.specs.Lookups.{fork_of}
use Rattle.event_index.proofs.CallerLemmas.{one_thread, op_event, thread_here}
use Rattle.schedule.specs.Refusals.{same_option, next_of, is_forked, other_holder, held_refusal, refusal_of_op, refusal_by, refusal_of, IsOnlyHolder}
use Rattle.schedule.specs.Reordering.{IsCorrectReordering, events_at}
use Rattle.schedule.specs.Shows.{IsReady, ready_by}
use Rattle.schedule.specs.declared.refusal.Disabled.{Disabled}
use Rattle.schedule.specs.declared.refusal.Disabled.TheVariants.{NoSuchEvent, NotNext, NotForked, LockHeld}
use Rattle.schedule.proofs.CallerLemmas.{is_ready-true}
use Rattle.schedule.proofs.LockLemmas.{holder_took_last, other_holder-taker, IsOnlyHolder-other}
use Rattle.schedule.proofs.TestLemmas.{same_option-same, is_fork_in-member}
use Rattle.must_order.proofs.CallerLemmas.{hold_count-ready}
use Rattle.must_order.proofs.ReadyLemmas.{next_of-ready}
use Rattle.lock_waits.specs.Held.{IsHeldBack}
use Rattle.lock_waits.specs.Laws.{ShownIsHeld}
use Rattle.lock_waits.specs.Waits.{AreOfTwoThreads, IsCycle, ShowsDeadlock, WaitsFor}
use Rattle.lock_waits.proofs.CycleLemmas.{stuck}

-- an acquire that is next is refused by the other thread that holds its lock
refused_by : (T : List Event) (P : List ℕ) (e l u : ℕ) (v : Event) → IsCorrectReordering T P → IsReady T P e → slice_get T e ≡ Some v → v.op ≡ Acquire l
    → other_holder T P v.thread l ≡ Some u → refusal_of T P e ≡ Some (LockHeld u)
unfolding refusal_of
refused_by T P e l u v is ready at op found =
    let t : ℕ = v.thread in
    let of : thread_at T e ≡ Some t = thread_here T e v at in
    let same : ready.thread ≡ t = same_Some ready.thread t (sym ready.of_thread ∙ of) in
    let next : same_option (next_of T P t) (Some e) ≡ true = same_option-same (next_of T P t) (Some e) (next_of-ready T P is e ready t of) in
    let forked : is_forked T P t ≡ true = is_fork_in-member P (fork_of T t) (λ f forks. ready.fork f (ap (fork_of T) same ∙ forks)) in
    ap (refusal_by T P e) at
    ∙ ap (λ b. cond (not b) (Some NotNext) (cond (not (is_forked T P t)) (Some NotForked) (refusal_of_op T P e t v.op))) next
    ∙ ap (λ b. cond (not b) (Some NotForked) (refusal_of_op T P e t v.op)) forked
    ∙ ap (refusal_of_op T P e t) op
    ∙ ap held_refusal found

module _ (T : List Event) (P : List ℕ) (e d u : ℕ) (is : IsCorrectReordering T P) (first : IsReady T P e) (second : IsReady T P d) (w : WaitsFor T e d)
    (apart : AreOfTwoThreads T e d) (of : thread_at T d ≡ Some u) where
  holds : 0 < hold_count (events_at T P) u w.lock
  holds =
      let (t, of_t, held) = w.held in
      let one : t ≡ u = one_thread T d t u of_t of in
      let there : hold_count (events_at T P) t w.lock ≡ hold_count (take d T) t w.lock = hold_count-ready T P is d second t w.lock of_t in
      let now : 0 < hold_count (events_at T P) t w.lock = omega (arith, there, held) in
      subst (λ (k : ℕ). 0 < hold_count (events_at T P) k w.lock) one now

  shown_held : IsOnlyHolder T P w.lock u × (refusal_of T P e ≡ Some (LockHeld u))
  shown_held =
      let v = op_event T e (Acquire w.lock) w.acquires in
      let other : u ≢ v.0.thread = λ same. apart (thread_here T e v.0 v.1 ∙ ap Some (sym same) ∙ sym of) in
      let found : other_holder T P v.0.thread w.lock ≡ Some u =
      other_holder-taker T P v.0.thread w.lock u is.locks (holder_took_last T P w.lock u is.locks holds) other holds in
      (IsOnlyHolder-other T P v.0.thread w.lock u is.locks found, refused_by T P e w.lock u v.0 is first v.1 v.2 found)

pub held_law : ShownIsHeld
held_law T P e d u is first second w apart of = shown_held T P e d u is first second w apart of

-- a cause that is no held lock is not the one
passes : (b : Bool) (cause : Disabled) (rest : Option Disabled) (u : ℕ) → cause ≢ LockHeld u → cond (not b) (Some cause) rest ≡ Some (LockHeld u)
    → (b ≡ true) × (rest ≡ Some (LockHeld u))
passes true cause rest u other h = (refl, h)
passes false cause rest u other h = absurd (other (same_Some cause (LockHeld u) h))

module _ (T : List Event) (P : List ℕ) (e : ℕ) (is : IsCorrectReordering T P) where
  ready_by_refusal : (u : ℕ) (o : Option Event) → slice_get T e ≡ o → refusal_by T P e o ≡ Some (LockHeld u) → ready_by T P e o ≡ true
  ready_by_refusal u None at h = absurd (let it : NoSuchEvent ≡ LockHeld u = same_Some NoSuchEvent (LockHeld u) h in cc)
  ready_by_refusal u (Some v) at h =
      let t : ℕ = v.thread in
      let next = passes (same_option (next_of T P t) (Some e)) NotNext (cond (not (is_forked T P t)) (Some NotForked) (refusal_of_op T P e t v.op)) u (λ it. cc) h in
      let forked = passes (is_forked T P t) NotForked (refusal_of_op T P e t v.op) u (λ it. cc) next.1 in
      and_from (same_option (next_of T P t) (Some e)) (is_forked T P t) next.0 forked.0

  -- what a held lock refuses is next
  ready_refused : IsHeldBack T P e → IsReady T P e
  unfolding refusal_of
  ready_refused (u, refused) = is_ready-true T P e is (ready_by_refusal u (slice_get T e) refl refused)

-- the requests of a cycle are next exactly if a held lock refuses each
module _ (T : List Event) (P es : List ℕ) (is : IsCorrectReordering T P) where
  pub shows_from : IsCycle T es → All (IsHeldBack T P) es → ShowsDeadlock T P es
  shows_from cycle refused = record {
    cycle = cycle;
    ready = λ k d lt. ready_refused T P _ is (refused k d lt);
  }

  pub refused_from : ShowsDeadlock T P es → All (IsHeldBack T P) es
  refused_from shows k d lt =
      let e : ℕ = get_or es k d in
      let has : Contains es e = Contains-get_or es k d lt in
      let s = stuck T es shows.cycle e has in
      let second : IsReady T P s.next = All-contains (IsReady T P) es s.next shows.ready s.there in
      (second.thread, (shown_held T P e s.next second.thread is (shows.ready k d lt) second s.waits s.other second.of_thread).1)

-- what decides whether a schedule of r shows the requests, which are a cycle of q
pub Decides-shows : (r q : Recording) → r ≡ q → (P es : List ℕ) → IsCorrectReordering r.events P → IsCycle q.events es → (b : Bool)
    → Decides b (All (IsHeldBack r.events P) es) → Decides b (ShowsDeadlock r.events P es)
Decides-shows r q same P es is cycle b decides = (
  λ so. shows_from r.events P es is (subst (λ (p : Recording). IsCycle p.events es) (sym same) cycle) (decides.0 so),
  λ shows. decides.1 (refused_from r.events P es is shows),
)
