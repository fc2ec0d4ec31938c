-- The lines of events: the canonical line, after the event's number if one is printed.
use Rattle.std.specs.Prelude.{ℕ, List, [], ◌++◌, Option, Some, None, slice_get, slice_index_or, flat_map, codes, decimal}
use Rattle.rapid_text.specs.Canonical.{event_text}
use Rattle.rapid_text.specs.Recording.{Recording}
use Rattle.rapid_text.specs.declared.event.Event.{Event}

abbrev pub event_line_by : Recording → Option Event → List ℕ → List ℕ
event_line_by r None location = []
event_line_by r (Some v) location = event_text r v location

-- the canonical line of event e
abbrev pub event_line : Recording → ℕ → List ℕ
event_line r e = event_line_by r (slice_get r.events e) (slice_index_or r.locations e [])

-- the number of event e, two blanks, and its canonical line
abbrev pub numbered_line : Recording → ℕ → List ℕ
numbered_line r e = decimal e ++ codes "  " ++ event_line r e

-- the canonical lines of the events
abbrev pub event_lines : Recording → List ℕ → List ℕ
event_lines r es = flat_map (event_line r) es

-- their numbered lines
abbrev pub numbered_lines : Recording → List ℕ → List ℕ
numbered_lines r es = flat_map (numbered_line r) es
