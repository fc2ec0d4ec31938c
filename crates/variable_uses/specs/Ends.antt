-- The rows of a race: those that have a named event. No public clause cites this module. `numbers` has the number of
-- each event's row, and `named` says of each event whether it is named.
use Rattle.std.specs.Prelude.{◌≡◌, ℕ, ◌-◌, ◌<◌, ◌&&◌, nat_lt, Bool, false, List, length, slice_index, slice_index_or}
use Rattle.std.specs.List.{list_any}
use Rattle.event_index.specs.Lookups.{before}
use Rattle.variable_uses.specs.Numbers.{has_number}

-- flags say which rows have one of the first n events that is named
abbrev pub AreNamedBefore : List ℕ → List Bool → ℕ → List Bool → Type 0
AreNamedBefore numbers named n flags = (k : ℕ) → k < length flags → slice_index_or flags k false ≡ list_any (λ e. slice_index_or named e false && has_number numbers k e) (before n)

-- whether the event is in a row with a flag
abbrev pub is_end_of : List ℕ → List Bool → ℕ → Bool
is_end_of numbers flags e = nat_lt 0 (slice_index numbers e) && slice_index_or flags (slice_index numbers e - 1) false
