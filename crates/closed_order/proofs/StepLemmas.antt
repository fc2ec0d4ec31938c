-- The premises of a step's rule.
use Rattle.std.proofs.Common.{◌≡◌, ◌≢◌, ℕ, List, Some, sym, ap, ◌∙◌}
use Rattle.rapid_text.specs.declared.event.Event.{Event}
use Rattle.rapid_text.specs.declared.event.Op.TheVariants.{Acquire}
use Rattle.event_index.specs.Events.{op_at, thread_at}
use Rattle.event_index.specs.Lookups.{section_end}
use Rattle.event_index.proofs.CallerLemmas.{op_event, thread_here}
use Rattle.must_order.specs.MustBefore.{EndsFirst, IsInSection}

-- of two sections of one lock the first one has to end first
pub EndsFirst-of : (T : List Event) (p r e l : ℕ) → op_at T p ≡ Some (Acquire l) → section_end T p ≡ Some r → (t : ℕ) → thread_at T e ≡ Some t
    → IsInSection T e t l → thread_at T p ≢ thread_at T e → EndsFirst T p r e
EndsFirst-of T p r e l takes ends t of inside apart =
    let v = op_event T p (Acquire l) takes in
    let of_p = thread_here T p v.0 v.1 in
    record {
      lock = l;
      owner = v.0.thread;
      thread = t;
      acquires = takes;
      of_owner = of_p;
      ends = ends;
      of_thread = of;
      other = λ same. apart (of_p ∙ ap Some same ∙ sym of);
      inside = inside;
    }
