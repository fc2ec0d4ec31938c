-- The line of an event that is found.
use Rattle.std.proofs.Common.{◌≡◌, ℕ, List, [], Some, ap, ◌∙◌}
use Rattle.std.specs.List.{slice_get, slice_index_or}
use Rattle.std.proofs.lemmas.Option.{get_or_from_slice_get}
use Rattle.rapid_text.specs.Canonical.{event_text}
use Rattle.rapid_text.specs.Recording.{Recording}
use Rattle.rapid_text.specs.declared.event.Event.{Event}
use Rattle.explain_report.specs.EventLines.{event_line, event_line_by}

pub event_line-found :
    (r : Recording) (e : ℕ) (v : Event) (location : List ℕ) → slice_get r.events e ≡ Some v → slice_get r.locations e ≡ Some location
    → event_line r e ≡ event_text r v location
event_line-found r e v location found at =
    ap (λ o. event_line_by r o (slice_index_or r.locations e [])) found ∙ ap (λ (l : List ℕ). event_text r v l) (get_or_from_slice_get r.locations e location [] at)
