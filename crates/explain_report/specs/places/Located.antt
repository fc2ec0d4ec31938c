-- The location of an event. `r` is the trace's recording.
use Rattle.std.specs.Prelude.{ℕ, List, [], slice_get, slice_index_or, Option, Some, None}
use Rattle.rapid_text.specs.Recording.{Recording}
use Rattle.rapid_text.specs.declared.event.Event.{Event}

abbrev pub location_by : Recording → ℕ → Option Event → List ℕ
location_by r e None = []
location_by r e (Some v) = slice_index_or r.locations e []

-- the location of event e; empty if there is no such event
abbrev pub location_at : Recording → ℕ → List ℕ
location_at r e = location_by r e (slice_get r.events e)
