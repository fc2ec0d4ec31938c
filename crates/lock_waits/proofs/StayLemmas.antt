-- A deadlock never ends: the first of its requests that happened would find its lock held.
use Rattle.std.proofs.Common.{◌≡◌, ◌≢◌, ℕ, zero, suc, ◌<◌, ◌≤◌, List, length, take, get_or, Contains, sym, ◌∙◌, subst, arith, inl, inr}
use Rattle.std.proofs.lemmas.Bool.{cases_lt}
use Rattle.std.proofs.lemmas.List.{get_or-take, length-take-le}
use Rattle.std.proofs.lemmas.List.Elements.{All-contains}
use Rattle.rapid_text.specs.declared.event.Event.{Event}
use Rattle.trace_rules.specs.Rules.{hold_count, acquire_count, release_count}
use Rattle.schedule.specs.Reordering.{IsCorrectReordering, IsEnabled, IsPrefix, events_at}
use Rattle.schedule.specs.Shows.{IsReady}
use Rattle.schedule.proofs.CallerLemmas.{Allows, Allows-enabled, IsEnabled-at, IsCorrectReordering-take}
use Rattle.must_order.proofs.CallerLemmas.{hold_count-ready}
use Rattle.lock_waits.specs.Laws.{DeadlockStays}
use Rattle.lock_waits.specs.Waits.{AreOfTwoThreads, ShowsDeadlock, WaitsFor}
use Rattle.lock_waits.proofs.CycleLemmas.{stuck}

module _ (T : List Event) (P Q es : List ℕ) (is : IsCorrectReordering T Q) (begins : IsPrefix P Q) (shows : ShowsDeadlock T P es) where
  ready : (e : ℕ) → Contains es e → IsReady T P e
  ready e has = All-contains (IsReady T P) es e shows.ready has

  -- what is in P is in each longer beginning of Q
  in_longer : (i x : ℕ) → length P ≤ i → i ≤ length Q → Contains P x → Contains (take i Q) x
  in_longer i x le within (j, lt, at) =
      let long : length (take i Q) ≡ i = length-take-le i Q within in
      let first : get_or (take (length P) Q) j x ≡ x = subst (λ (xs : List ℕ). get_or xs j x ≡ x) (sym begins) at in
      let same : get_or (take (length P) Q) j x ≡ get_or Q j x = get_or-take (length P) Q j x lt in
      let also : get_or (take i Q) j x ≡ get_or Q j x = get_or-take i Q j x (omega arith) in
      (j, omega (arith, long), also ∙ sym same ∙ first)

  -- a request that did not happen is still next
  still_ready : (i d : ℕ) → length P ≤ i → i ≤ length Q → Contains es d → ¬ Contains (take i Q) d → IsReady T (take i Q) d
  still_ready i d le within has fresh =
      let r = ready d has in
      record {
        thread = r.thread;
        of_thread = r.of_thread;
        fresh = fresh;
        earlier = λ x lt of. in_longer i x le within (r.earlier x lt of);
        fork = λ f forks. in_longer i f le within (r.fork f forks);
      }

  -- a request may not come next if the one that it waits for is still next
  is_refused : (i e d : ℕ) → i < length Q → get_or Q i e ≡ e → WaitsFor T e d → AreOfTwoThreads T e d → ¬ IsReady T (take i Q) d
  is_refused i e d within at w apart r =
      let sound : IsCorrectReordering T (take i Q) = IsCorrectReordering-take T Q i (omega arith) is in
      let after : IsEnabled T (take i Q) e = subst (IsEnabled T (take i Q)) at (IsEnabled-at T Q i e within is) in
      let a : Allows T (take i Q) e = Allows-enabled T (take i Q) e after in
      let (u, of_u, holds) = w.held in
      let there : hold_count (events_at T (take i Q)) u w.lock ≡ hold_count (take d T) u w.lock = hold_count-ready T (take i Q) sound d r u w.lock of_u in
      let even : acquire_count (events_at T (take i Q)) u w.lock ≡ release_count (events_at T (take i Q)) u w.lock =
      a.lock w.lock u w.acquires (λ same. apart (same ∙ sym of_u)) in
      omega (arith, even, there, holds)

  nowhere : (n i e : ℕ) → i < n → i < length Q → Contains es e → get_or Q i e ≢ e
  nowhere zero i e below within has at = omega (arith, below)
  nowhere (suc n) i e below within has at =
      elim (cases_lt i (length P)) [
        | inl early ↦
            (ready e has).fresh (i, early, subst (λ (xs : List ℕ). get_or xs i e ≡ e) begins (get_or-take (length P) Q i e early ∙ at))
        | inr late ↦
            let s = stuck T es shows.cycle e has in
            let long : length (take i Q) ≡ i = length-take-le i Q (omega arith) in
            is_refused i e s.next within at s.waits s.other
            (still_ready i s.next late (omega arith) s.there
            (λ (j, lt, is_d).
            let lower : j < i = omega (arith, long) in
            nowhere n j s.next (omega arith) (omega arith) s.there (sym (get_or-take i Q j s.next lower) ∙ is_d)))
      ]

pub stays_law : DeadlockStays
stays_law T P Q es e is begins shows has (i, within, at) =
    nowhere T P Q es is begins shows (length Q) i e within within has at
