-- How the tables of an index represent the look-ups. No public clause cites this module.
use Rattle.std.specs.Prelude.{◌≡◌, ℕ, ◌+◌, ◌-◌, ◌<◌, ◌≤◌, filter, List, length, take, drop, reverse, find, slice_index, Option}
use Rattle.rapid_text.specs.declared.event.Event.{Event}
use Rattle.rapid_text.specs.Recording.{Recording, IsWellFormed}
use Rattle.trace_rules.specs.Rules.{IsDisciplined}
use Rattle.event_index.specs.Events.{is_of_thread, is_fork_at}
pub use Rattle.event_index.specs.Tables.{IsTable}
pub use Rattle.event_index.specs.Lookups.{count_before}
use Rattle.event_index.specs.Lookups.{before, events_of, place_of, last_write, last_writer, fork_of, base_of, section_end, start_of}
use Rattle.event_index.specs.declared.indexed.Indexed.TheInside.{Inside}
use Rattle.event_index.specs.declared.tables.Tables.{Tables}

-- the fork of the thread u among the first e events
abbrev pub fork_before : List Event → ℕ → ℕ → Option ℕ
fork_before T e u = find (is_fork_at T u) (before e)

-- the last event of the thread t among the first e
abbrev pub last_before : List Event → ℕ → ℕ → Option ℕ
last_before T e t = find (is_of_thread T t) (reverse (before e))

-- The events of all threads in one list, thread by thread. Those of thread t are at the indices from starts[t] up to
-- starts[t + 1].
pub record IsGrouped (events_of_thread : ℕ → List ℕ) (threads : ℕ) (grouped starts : List ℕ) : Type 0 where
  pub len : length starts ≡ threads + 1
  pub bounds : (t : ℕ) → t < threads → (slice_index starts t ≤ slice_index starts (t + 1)) × (slice_index starts (t + 1) ≤ length grouped)
  pub part : (t : ℕ) → t < threads → take (slice_index starts (t + 1) - slice_index starts t) (drop (slice_index starts t) grouped) ≡ events_of_thread t

-- the first e events are at their indices in the list
pub record IsFilled (T : List Event) (threads e : ℕ) (row : List ℕ) : Type 0 where
  pub len : length row ≡ length T
  pub part : (t : ℕ) → t < threads → take (count_before T e t) (drop (start_of T t) row) ≡ filter (is_of_thread T t) (before e)

-- the tables are those of the recording
pub record AreTables (r : Recording) (s : Tables) : Type 0 where
  pub places : IsTable (place_of r.events) (length r.events) s.places.items
  pub bases : IsTable (base_of r.events) (length r.events) s.bases.items
  pub writers : IsTable (last_writer r.events) (length r.events) s.writers.items
  pub sections : IsTable (section_end r.events) (length r.events) s.sections.items
  pub forks : IsTable (fork_of r.events) (length r.threads) s.forks.items
  pub grouped : IsGrouped (events_of r.events) (length r.threads) s.grouped.items s.starts.items

-- what holds for the fields of each index
pub record IsSound (s : Inside) : Type 0 where
  pub well_formed : IsWellFormed s.trace
  pub disciplined : IsDisciplined s.trace.events
  pub tables : AreTables s.trace s.tables

-- the table has the value of f for each event of the trace
abbrev pub TellsEvents : {X : Type 0} → (List Event → ℕ → X) → Recording → List X → Type 0
TellsEvents f r table = IsTable (f r.events) (length r.events) table

-- the table has the value of f for each thread
abbrev pub TellsThreads : {X : Type 0} → (List Event → ℕ → X) → Recording → List X → Type 0
TellsThreads f r table = IsTable (f r.events) (length r.threads) table

-- how many events the thread has
abbrev pub total_of : List Event → ℕ → ℕ
total_of T = count_before T (length T)

-- the indices at which the events of each thread begin in the list of all, and the length of that list
abbrev pub AreStarts : Recording → List ℕ → Type 0
AreStarts r starts = IsTable (start_of r.events) (length r.threads + 1) starts

-- the list of all events, thread by thread
abbrev pub AreGrouped : Recording → List ℕ → List ℕ → Type 0
AreGrouped r grouped starts = IsGrouped (events_of r.events) (length r.threads) grouped starts

-- how many of the first e events each thread has
abbrev pub AreCountsBefore : Recording → ℕ → List ℕ → Type 0
AreCountsBefore r e counts = IsTable (count_before r.events e) (length r.threads) counts

-- the last write of each variable among the first e events
abbrev pub AreLastWrites : Recording → ℕ → List (Option ℕ) → Type 0
AreLastWrites r e last = IsTable (λ x. last_write r.events x (before e)) (length r.variables) last
