-- Rows by their numbers. No public clause cites this module. `keys` has the key of each event, and `numbers` has the
-- number of each event's row, counted from 1; 0 for an event that is in no row.
use Rattle.std.specs.Prelude.{◌≡◌, ℕ, ◌+◌, ◌-◌, ◌<◌, ◌≤◌, ◌==◌, nat_lt, Bool, List, All, filter, count_by, length, slice_index}
use Rattle.std.specs.List.{list_any}
use Rattle.event_index.specs.Lookups.{before}
use Rattle.variable_uses.specs.Rows.{has_key, is_first, firsts_of}
use Rattle.variable_uses.specs.declared.numbering.Numbering.{Numbering}

-- whether event e is in row k, counted from 0
abbrev pub has_number : List ℕ → ℕ → ℕ → Bool
has_number numbers k e = slice_index numbers e == k + 1

-- The rows of the first m events, and the numbers of the first n events. `slots` has the number of the row of each key,
-- and 0 if no event has it.
pub record IsNumbered (keys : List ℕ) (m n : ℕ) (slots : List ℕ) (s : Numbering) : Type 0 where
  pub firsts : s.firsts.items ≡ filter (is_first keys) (before m)
  pub len : length s.numbers.items ≡ n
  pub zero_slot : slice_index slots 0 ≡ 0
  pub numbers : (e : ℕ) → e < n → slice_index s.numbers.items e ≡ slice_index slots (slice_index keys e)
  pub known : (key : ℕ) → 0 < key → nat_lt 0 (slice_index slots key) ≡ list_any (has_key keys key) (before m)
  pub few : (key : ℕ) → slice_index slots key ≤ length s.firsts.items
  pub at : (k : ℕ) → k < length s.firsts.items → slice_index slots (slice_index keys (slice_index s.firsts.items k)) ≡ k + 1
  pub back : (key : ℕ) → 0 < slice_index slots key → slice_index keys (slice_index s.firsts.items (slice_index slots key - 1)) ≡ key

-- The rows of all events: each number is that of a row, and a row's events are those with the key of its first one.
pub record AreNumbers (keys : List ℕ) (s : Numbering) : Type 0 where
  pub firsts : s.firsts.items ≡ firsts_of keys
  pub len : length s.numbers.items ≡ length keys
  pub few : All (λ m. m ≤ length s.firsts.items) s.numbers.items
  pub positive : (e : ℕ) → nat_lt 0 (slice_index s.numbers.items e) ≡ nat_lt 0 (slice_index keys e)
  pub tests : (k e : ℕ) → k < length s.firsts.items → has_number s.numbers.items k e ≡ has_key keys (slice_index keys (slice_index s.firsts.items k)) e

-- counts have how many of the first n events are in each row
abbrev pub AreCountsBefore : List ℕ → ℕ → List ℕ → Type 0
AreCountsBefore numbers n counts = (k : ℕ) → k < length counts → slice_index counts k ≡ count_by (has_number numbers k) (before n)
