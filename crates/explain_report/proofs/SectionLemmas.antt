-- Which events lie in no section.
use Rattle.std.proofs.Common.{◌≡◌, ℕ, ◌≤◌, List, length, Some, None, refl, sym, ap, ◌∙◌}
use Rattle.std.proofs.lemmas.Option.{slice_get_past}
use Rattle.rapid_text.specs.declared.event.Event.{Event}
use Rattle.event_index.specs.Events.{thread_at}
use Rattle.must_order.specs.MustBefore.{IsHeldBefore}

thread_past : (T : List Event) (e : ℕ) → length T ≤ e → thread_at T e ≡ None
thread_past T e le = rw (slice_get_past T e le) refl

pub held_past : (T : List Event) (e l : ℕ) → length T ≤ e → ¬ IsHeldBefore T e l
held_past T e l le held = absurd (cc (sym (thread_past T e le) ∙ held.1))
