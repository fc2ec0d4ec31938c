-- What is known of an event that is there: its thread, and what it does.
use Rattle.std.proofs.Common.{◌≡◌, ℕ, ◌<◌, true, eqb, List, Option, Some, None, length, refl, sym, ap, ◌∙◌, eq-eqb}
use Rattle.std.specs.List.{slice_get}
use Rattle.std.specs.Option.{option_map}
use Rattle.std.proofs.lemmas.Option.{none-some, same_Some, slice_get_within}
use Rattle.rapid_text.specs.declared.event.Event.{Event}
use Rattle.rapid_text.specs.declared.event.Op.{Op}
use Rattle.event_index.specs.Events.{op_at, thread_at, is_of_thread}
use Rattle.event_index.proofs.StepLemmas.{passes_here}

-- an event of a thread, an event that does something
thread_found : (t : ℕ) (o : Option Event) → option_map (λ (v : Event). v.thread) o ≡ Some t → (v : Event) × (o ≡ Some v) × (v.thread ≡ t)
thread_found t None h = absurd (none-some t h)
thread_found t (Some v) h = (v, refl, same_Some v.thread t h)

op_found : (op : Op) (o : Option Event) → option_map (λ (v : Event). v.op) o ≡ Some op → (v : Event) × (o ≡ Some v) × (v.op ≡ op)
op_found op None h = absurd (none-some op h)
op_found op (Some v) h = (v, refl, same_Some v.op op h)

module _ (T : List Event) (e : ℕ) where
  pub thread_event : (t : ℕ) → thread_at T e ≡ Some t → (v : Event) × (slice_get T e ≡ Some v) × (v.thread ≡ t)
  thread_event t h = thread_found t (slice_get T e) h

  pub op_event : (op : Op) → op_at T e ≡ Some op → (v : Event) × (slice_get T e ≡ Some v) × (v.op ≡ op)
  op_event op h = op_found op (slice_get T e) h

  pub thread_here : (v : Event) → slice_get T e ≡ Some v → thread_at T e ≡ Some v.thread
  thread_here v at = ap (option_map (λ (w : Event). w.thread)) at

  pub op_here : (v : Event) → slice_get T e ≡ Some v → op_at T e ≡ Some v.op
  op_here v at = ap (option_map (λ (w : Event). w.op)) at

  -- an event that has a thread is one of the trace
  pub thread_within : (t : ℕ) → thread_at T e ≡ Some t → e < length T
  thread_within t h = let found = thread_event t h in slice_get_within T e found.0 found.1

  -- and passes the test of its thread
  pub is_of_thread-from : (t : ℕ) → thread_at T e ≡ Some t → is_of_thread T t e ≡ true
  is_of_thread-from t h =
      let found = thread_event t h in
      passes_here (λ w. eqb w.thread t) T e found.0 found.1 ∙ eq-eqb found.0.thread t found.2

-- two threads of one event are one
pub one_thread : (T : List Event) (e t u : ℕ) → thread_at T e ≡ Some t → thread_at T e ≡ Some u → t ≡ u
one_thread T e t u h k = same_Some t u (sym h ∙ k)
