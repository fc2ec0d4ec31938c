-- The threads of rows, while they are counted. No public clause cites this module. `T` is the events of a trace, and
-- `numbers` has the number of each event's row.
use Rattle.std.specs.Prelude.{◌≡◌, ◌≢◌, ℕ, ◌+◌, ◌-◌, ◌<◌, ◌≤◌, ◌==◌, cond, List, All, length, set, slice_index}
use Rattle.std.specs.List.{list_any}
use Rattle.rapid_text.specs.declared.event.Event.{Event}
use Rattle.variable_uses.specs.Numbers.{has_number}
use Rattle.variable_uses.specs.Rows.{threads_in}

-- counts have how many of the first n threads have an event in each row
abbrev pub AreThreadsBefore : List Event → List ℕ → ℕ → List ℕ → Type 0
AreThreadsBefore T numbers n counts = (k : ℕ) → k < length counts → slice_index counts k ≡ threads_in T n (has_number numbers k)

-- The same while the events of thread n are added: `events` are those so far. `lasts` has for each row the last thread
-- with an event in it, counted from 1.
pub record AreSeen (T : List Event) (numbers : List ℕ) (n : ℕ) (events counts lasts : List ℕ) : Type 0 where
  pub per_row : (k : ℕ) → k < length counts → slice_index counts k ≡ threads_in T n (has_number numbers k) + cond (list_any (has_number numbers k) events) 1 0
  pub last_in_row : (k : ℕ) → k < length counts → (slice_index lasts k == n + 1) ≡ list_any (has_number numbers k) events
  pub few : All (λ l. l ≤ n + 1) lasts

-- the counts and the last threads after one event of thread n, by the number of its row
pub data IsSeen (n number : ℕ) (counts lasts after later : List ℕ) : Type 0 where
  none : number ≡ 0 → after ≡ counts → later ≡ lasts → IsSeen n number counts lasts after later
  again : 0 < number → slice_index lasts (number - 1) ≡ n + 1 → after ≡ counts → later ≡ lasts → IsSeen n number counts lasts after later
  first :
      0 < number → slice_index lasts (number - 1) ≢ n + 1
      → after ≡ set counts (number - 1) (slice_index counts (number - 1) + 1)
      → later ≡ set lasts (number - 1) (n + 1)
      → IsSeen n number counts lasts after later
