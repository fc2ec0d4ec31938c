-- Whether a thread holds a lock before an event, by the last that took it while it was free.
use Rattle.std.proofs.Common.{◌≡◌, ℕ, ◌+◌, ◌<◌, List, [], ◌∷◌, ◌++◌, Some, None, Contains, sym, ap, ◌∙◌, subst, arith, inl, inr}
use Rattle.std.proofs.lemmas.Bool.{cases_lt}
use Rattle.std.proofs.lemmas.List.Elements.{All-push, All-weaker, Contains-append_left, Contains-push}
use Rattle.std.proofs.lemmas.List.Quantifiers.{all_pairs_push}
use Rattle.std.proofs.lemmas.Option.{same_Some, none-some}
use Rattle.rapid_text.specs.declared.event.Event.{Event}
use Rattle.trace_rules.specs.Rules.{IsDisciplined}
use Rattle.event_index.specs.Events.{thread_at}
use Rattle.event_index.proofs.CallerLemmas.{find_last_is, thread_within}
use Rattle.must_order.specs.Held.{IsHeldFrom, AreLocksHeld}
use Rattle.must_order.specs.MustBefore.{IsHeldBefore}
use Rattle.must_order.specs.Sections.{is_outer, last_outer, IsOpenAt}
use Rattle.must_order.proofs.SectionLemmas.{section-open}
use Rattle.must_order.proofs.TimelineLemmas.{IsOuter-test, held_since, last_outer-since, section-since}

module _ (T : List Event) (rules : IsDisciplined T) (e l : ℕ) where
  -- who holds it took it last
  holder_is : IsHeldBefore T e l → (p : ℕ) × (last_outer T l e ≡ Some p) × (thread_at T p ≡ thread_at T e) × IsOpenAt T e p
  holder_is (t, of, holds) =
      let since = held_since T rules e t l (omega (arith, thread_within T e t of)) holds in
      (since.0, last_outer-since T rules e t l since.0 since.1, since.1.outer.of ∙ sym of, section-since T rules e t l since.0 since.1)

  pub not_held : last_outer T l e ≡ None → ¬ IsHeldBefore T e l
  not_held none held = let it = holder_is held in none-some it.0 (sym none ∙ it.1)

  pub not_held_from : (p : ℕ) → last_outer T l e ≡ Some p → (thread_at T p ≡ thread_at T e → ¬ IsOpenAt T e p) → ¬ IsHeldBefore T e l
  not_held_from p found outside held =
      let it = holder_is held in
      let one : it.0 ≡ p = same_Some it.0 p (sym it.1 ∙ found) in
      outside (ap (thread_at T) (sym one) ∙ it.2) (subst (IsOpenAt T e) one it.3)

  pub held_from : (p t : ℕ) → thread_at T e ≡ Some t → last_outer T l e ≡ Some p → thread_at T p ≡ thread_at T e → IsOpenAt T e p → IsHeldBefore T e l
  held_from p t of found mine is =
      let last = find_last_is (is_outer T l) e p found in
      let o = IsOuter-test T p l last.1 in
      (t, of, section-open T rules p l t e o.1.acquires (mine ∙ of) is last.0 (omega (arith, thread_within T e t of)))

  -- and took it at the last acquire that found it free
  pub IsHeldFrom-last : (p t : ℕ) → thread_at T e ≡ Some t → last_outer T l e ≡ Some p → thread_at T p ≡ thread_at T e → IsOpenAt T e p → IsHeldFrom T e l p
  IsHeldFrom-last p t of found mine is =
      let holds = held_from p t of found mine is in
      let since = held_since T rules e holds.0 l (omega (arith, thread_within T e t of)) holds.2 in
      let one : since.0 ≡ p = same_Some since.0 p (sym (last_outer-since T rules e holds.0 l since.0 since.1) ∙ found) in
      subst (IsHeldFrom T e l) one record {
        thread = holds.0;
        of = holds.1;
        earlier = since.1.early;
        acquires = since.1.outer.acquires;
        of_acquire = since.1.outer.of;
        free = since.1.outer.free;
        held = since.1.held;
      }

-- one lock more is looked at, and is held
pub AreLocksHeld-push : (T : List Event) (e n : ℕ) (locks : List ℕ) → AreLocksHeld T e n locks → IsHeldBefore T e n → AreLocksHeld T e (n + 1) (locks ++ n ∷ [])
AreLocksHeld-push T e n locks are held = record {
  rising = all_pairs_push ◌<◌ locks n are.rising (λ k d lt. (are.held k d lt).0);
  held = All-push (λ l. (l < n + 1) × IsHeldBefore T e l) locks n
      (All-weaker (λ l. (l < n) × IsHeldBefore T e l) (λ l. (l < n + 1) × IsHeldBefore T e l) (λ l h. (omega (arith, h.0), h.1)) locks are.held) (omega arith, held);
  all = λ l lt is.
      elim (cases_lt l n) [
        | inl low ↦ Contains-append_left locks (n ∷ []) l (are.all l low is)
        | inr high ↦ let here : n ≡ l = omega arith in subst (Contains (locks ++ n ∷ [])) here (Contains-push locks n)
      ];
}

-- or is not held
pub AreLocksHeld-skip : (T : List Event) (e n : ℕ) (locks : List ℕ) → AreLocksHeld T e n locks → ¬ IsHeldBefore T e n → AreLocksHeld T e (n + 1) locks
AreLocksHeld-skip T e n locks are free = record {
  rising = are.rising;
  held = All-weaker (λ l. (l < n) × IsHeldBefore T e l) (λ l. (l < n + 1) × IsHeldBefore T e l) (λ l h. (omega (arith, h.0), h.1)) locks are.held;
  all = λ l lt is.
      elim (cases_lt l n) [
        | inl low ↦ are.all l low is
        | inr high ↦ let here : l ≡ n = omega arith in absurd (free (subst (IsHeldBefore T e) here is))
      ];
}
