-- In a cycle each request waits for another one.
use Rattle.std.proofs.Common.{◌≡◌, ◌≢◌, ℕ, ◌+◌, ◌-◌, ◌<◌, ◌≤◌, Bool, Decides, List, length, take, get_or, All, Any, AllPairs, Contains, Some, sym, ap, ◌∙◌, subst, arith, inl, inr}
use Rattle.std.proofs.lemmas.Bool.{cases_lt}
use Rattle.std.proofs.lemmas.List.{get_or_default, get_or-take, length-take-le, take_all, take_more}
use Rattle.std.proofs.lemmas.List.Elements.{Contains-get_or}
use Rattle.std.proofs.lemmas.List.Quantifiers.{all_pairs_push}
use Rattle.std.proofs.lemmas.Option.{slice_get_within}
use Rattle.rapid_text.specs.Recording.{Recording}
use Rattle.rapid_text.specs.declared.event.Event.{Event}
use Rattle.rapid_text.specs.declared.event.Op.TheVariants.{Acquire}
use Rattle.event_index.specs.Events.{op_at, thread_at}
use Rattle.event_index.proofs.CallerLemmas.{op_event, thread_within}
use Rattle.must_order.specs.MustBefore.{IsHeldBefore}
use Rattle.must_order.proofs.OwedLemmas.{acquired_lock}
use Rattle.lock_waits.specs.Waits.{AreOfTwoThreads, IsCycle, WaitsFor}

-- e waits for a request of another thread
pub record IsStuckAt (T : List Event) (es : List ℕ) (e : ℕ) : Type 0 where
  pub next : ℕ
  pub there : Contains es next
  pub waits : WaitsFor T e next
  pub other : AreOfTwoThreads T e next

-- a request is an event
pub WaitsFor-within : (T : List Event) (e d : ℕ) → WaitsFor T e d → e < length T
WaitsFor-within T e d w =
    let v = op_event T e (Acquire w.lock) w.acquires in
    slice_get_within T e v.0 v.1

module _ (T : List Event) (es : List ℕ) (is : IsCycle T es) where
  stuck_at : (k : ℕ) → k < length es → IsStuckAt T es (get_or es k 0)
  stuck_at k lt =
      elim (cases_lt (k + 1) (length es)) [
        | inl inside ↦ record {
          next = get_or es (k + 1) 0;
          there = Contains-get_or es (k + 1) 0 inside;
          waits = is.waits k inside;
          other = is.threads k (k + 1) 0 (omega arith) inside;
        }
        | inr outside ↦
            let several : 2 ≤ length es = is.several in
            let last : length es - 1 ≡ k = omega arith in
            record {
              next = get_or es 0 0;
              there = Contains-get_or es 0 0 (omega arith);
              waits = subst (λ (i : ℕ). WaitsFor T (get_or es i 0) (get_or es 0 0)) last is.closed;
              other = λ same. is.threads 0 k 0 (omega arith) lt (sym same);
            }
      ]

  pub stuck : (e : ℕ) → Contains es e → IsStuckAt T es e
  stuck e (k, lt, at) = subst (IsStuckAt T es) (sym (get_or_default es k e 0 lt) ∙ at) (stuck_at k lt)

-- if each request but the last waits for the next one, and the last for the first, they are events
pub all_within : (T : List Event) (es : List ℕ) → 2 ≤ length es
    → ((i : ℕ) → i + 1 < length es → WaitsFor T (get_or es i 0) (get_or es (i + 1) 0))
    → WaitsFor T (get_or es (length es - 1) 0) (get_or es 0 0)
    → All (λ e. e < length T) es
all_within T es several waits closed k d lt =
    subst (λ (e : ℕ). e < length T) (sym (get_or_default es k d 0 lt))
    (elim (cases_lt (k + 1) (length es)) [
      | inl inside ↦ WaitsFor-within T (get_or es k 0) (get_or es (k + 1) 0) (waits k inside)
      | inr outside ↦
          let last : length es - 1 ≡ k = omega arith in
          subst (λ (i : ℕ). get_or es i 0 < length T) last (WaitsFor-within T (get_or es (length es - 1) 0) (get_or es 0 0) closed)
    ])

-- what decides whether e waits for d, in a trace r that is read as q
module _ (r q : Recording) (same : q ≡ r) (e d : ℕ) where
  pub waits_for-past : (n : ℕ) → n ≡ length q.events → n ≤ e → ¬ WaitsFor r.events e d
  waits_for-past n is past w =
      omega (arith, is, past, ap (λ (p : Recording). length p.events) same, WaitsFor-within r.events e d w)

  pub waits_for-past_second : (n : ℕ) → n ≡ length q.events → n ≤ d → ¬ WaitsFor r.events e d
  waits_for-past_second n is past w =
      omega (arith, is, past, ap (λ (p : Recording). length p.events) same, thread_within r.events d w.held.0 w.held.1)

  pub waits_for-none : ((l : ℕ) → op_at q.events e ≢ Some (Acquire l)) → ¬ WaitsFor r.events e d
  waits_for-none none w = none w.lock (subst (λ (p : Recording). op_at p.events e ≡ Some (Acquire w.lock)) (sym same) w.acquires)

  pub waits_for-lock : (l : ℕ) (b : Bool) → op_at q.events e ≡ Some (Acquire l) → Decides b (IsHeldBefore r.events d l) → Decides b (WaitsFor r.events e d)
  waits_for-lock l b takes decides =
      let here : op_at r.events e ≡ Some (Acquire l) = subst (λ (p : Recording). op_at p.events e ≡ Some (Acquire l)) same takes in (
        λ so. record { lock = l; acquires = here; held = decides.0 so },
        λ w. decides.1 (subst (IsHeldBefore r.events d) (acquired_lock r.events e w.lock l w.acquires here) w.held),
      )

-- one more of the events is of another thread than those before it
module _ (T : List Event) (es : List ℕ) where
  abbrev SameThread : ℕ → ℕ → Type 0
  SameThread y e = thread_at T e ≡ thread_at T y

  pub different-push : (at y : ℕ) → at < length es → get_or es at 0 ≡ y → AllPairs (AreOfTwoThreads T) (take at es) → ¬ Any (SameThread y) (take at es)
      → AllPairs (AreOfTwoThreads T) (take (at + 1) es)
  different-push at y lt is pairs none =
      subst (AllPairs (AreOfTwoThreads T)) (sym (take_more es at 0 lt))
      (all_pairs_push (AreOfTwoThreads T) (take at es) (get_or es at 0) pairs
      (λ k d within same.
      let e : ℕ = get_or (take at es) k d in
      none (k, e, within, get_or_default (take at es) k e d within, same ∙ ap (thread_at T) is)))

  pub different-not : (at y : ℕ) → at < length es → get_or es at 0 ≡ y → Any (SameThread y) (take at es) → ¬ AllPairs (AreOfTwoThreads T) es
  different-not at y lt is (k, e, within, there, same) pairs =
      let long : length (take at es) ≡ at = length-take-le at es (omega (arith, lt)) in
      let early : k < at = omega (arith, within, long) in
      let here : get_or es k 0 ≡ e =
      get_or_default es k 0 e (omega (arith, early, lt)) ∙ sym (get_or-take at es k e early) ∙ there in
      pairs k at 0 early lt (ap (thread_at T) here ∙ same ∙ ap (thread_at T) (sym is))

  pub different-all : (at : ℕ) → length es ≤ at → AllPairs (AreOfTwoThreads T) (take at es) → AllPairs (AreOfTwoThreads T) es
  different-all at le pairs = subst (AllPairs (AreOfTwoThreads T)) (take_all at es le) pairs

-- what decides whether requests that wait for one another are a cycle, in a trace r that is read as q
pub Decides-cycle : (r q : Recording) → q ≡ r → (es : List ℕ) → 2 ≤ length es
    → ((i : ℕ) → i + 1 < length es → WaitsFor r.events (get_or es i 0) (get_or es (i + 1) 0))
    → WaitsFor r.events (get_or es (length es - 1) 0) (get_or es 0 0)
    → (b : Bool) → Decides b (AllPairs (AreOfTwoThreads q.events) es) → Decides b (IsCycle r.events es)
Decides-cycle r q same es several waits closed b decides = (
  λ so. record {
    several = several;
    threads = subst (λ (p : Recording). AllPairs (AreOfTwoThreads p.events) es) same (decides.0 so);
    waits = waits;
    closed = closed;
  },
  λ is. decides.1 (subst (λ (p : Recording). AllPairs (AreOfTwoThreads p.events) es) (sym same) is.threads),
)
