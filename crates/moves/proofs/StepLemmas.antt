-- A step of a schedule, and the step that leads back.
use Rattle.std.proofs.Common.{◌≡◌, ℕ, List, [], ◌∷◌, ◌++◌, Some, None, sym, ap, ◌∙◌}
use Rattle.schedule.specs.Scheduled.{Scheduled}
use Rattle.schedule.specs.Reordering.{IsCorrectReordering}
use Rattle.schedule.specs.Swaps.{exchanged, swap_refusal, MayExchange}
use Rattle.schedule.proofs.CallerLemmas.{refusal_of-enabled, MayExchange-none, MayExchange-exchanged, swap_refusal-may, exchanged-exchanged}
use Rattle.moves.specs.declared.inverse.Step.TheVariants.{Gains, Exchanges}
use Rattle.moves.specs.Inverses.{with_list, gained, restored, stepped}

-- schedules of one trace with the same events are the same
list_same : (s t : Scheduled) (P : List ℕ) → t.trace ≡ s.trace → t.events ≡ P → with_list s P ≡ t
list_same s t P trace events = λ i. record { trace = sym trace i; events = sym events i }

-- from s to t and back
module _ (s t : Scheduled) (trace : t.trace ≡ s.trace) where
  -- the last event may come again
  pub step_regains : (e : ℕ) → t.events ≡ s.events ++ e ∷ [] → IsCorrectReordering t.trace.events t.events → stepped (Gains e) s ≡ Some t
  step_regains e events reordering =
      let whole : IsCorrectReordering s.trace.events (s.events ++ e ∷ []) = rw (← trace, ← events) reordering in
      ap (gained s e) (refusal_of-enabled s.trace.events s.events e whole) ∙ ap Some (list_same s t (s.events ++ e ∷ []) trace events)

  pub step_exchanges_back : (k : ℕ) → t.events ≡ exchanged s.events k → swap_refusal s.trace.events s.events k ≡ None → stepped (Exchanges k) t ≡ Some s
  step_exchanges_back k events may =
      let here : MayExchange s.trace.events s.events k = MayExchange-none s.trace.events s.events k may in
      let there : MayExchange t.trace.events t.events k = rw (trace, events) (MayExchange-exchanged s.trace.events s.events k here) in
      let twice : s.events ≡ exchanged t.events k = sym (ap (λ (P : List ℕ). exchanged P k) events ∙ exchanged-exchanged s.events k here.within) in
      ap (restored t k) (swap_refusal-may t.trace.events t.events k there) ∙ ap Some (list_same t s (exchanged t.events k) (sym trace) twice)
