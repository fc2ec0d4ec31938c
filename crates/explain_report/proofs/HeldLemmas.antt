-- The locks that an event's thread holds, as a list.
use Rattle.std.proofs.Common.{◌≡◌, ℕ, ◌<◌, Bool, true, List, length, take, Some, Option, None, ap, sym, ◌∙◌, refl, true≢false}
use Rattle.std.proofs.lemmas.Bool.{lt-ltb, ltb-true}
use Rattle.std.proofs.lemmas.List.Elements.{All-contains}
use Rattle.rapid_text.specs.Recording.{Recording}
use Rattle.trace_rules.specs.Rules.{hold_count}
use Rattle.event_index.specs.Events.{thread_at}
use Rattle.must_order.specs.Held.{AreLocksHeld}
use Rattle.must_order.specs.MustBefore.{IsHeldBefore}
use Rattle.witness_search.proofs.KeptLemmas.{kept_below, kept_member, kept_passes, kept-rises}
use Rattle.witness_search.proofs.RisingLemmas.{rising-unique}
use Rattle.explain_report.specs.Accesses.{held_locks, is_held_by}

module _ (r : Recording) (e : ℕ) where
  held_true : (l : ℕ) → IsHeldBefore r.events e l → is_held_by r e (thread_at r.events e) l ≡ true
  held_true l (t, of, some) = ap (λ o. is_held_by r e o l) of ∙ lt-ltb 0 (hold_count (take e r.events) t l) some

  held_from : (l : ℕ) (o : Option ℕ) → thread_at r.events e ≡ o → is_held_by r e o l ≡ true → IsHeldBefore r.events e l
  held_from l None of test = absurd (true≢false (sym test))
  held_from l (Some t) of test = (t, of, ltb-true 0 (hold_count (take e r.events) t l) test)

  -- what is listed is the list of the locks that pass the test
  pub held_locks-is : (locks : List ℕ) → AreLocksHeld r.events e (length r.locks) locks → locks ≡ held_locks r e
  held_locks-is locks is =
      let test : ℕ → Bool = is_held_by r e (thread_at r.events e) in
      let n = length r.locks in
      rising-unique locks (held_locks r e) is.rising (kept-rises test n)
      (λ l there. let one = All-contains (λ l. (l < n) × IsHeldBefore r.events e l) locks l is.held there in kept_member test n l one.0 (held_true l one.1))
      (λ l there. is.all l (kept_below test n l there) (held_from l (thread_at r.events e) refl (kept_passes test n l there)))
