-- Rows that are joined until they count all needed events. No public clause cites this module. `T` is the events of a
-- trace. A row counts, for each thread, its first events.
use Rattle.std.specs.Prelude.{◌≡◌, ◌⊎◌, ℕ, ◌≤◌, List, length, Option, Some, Contains}
use Rattle.rapid_text.specs.declared.event.Event.{Event}
use Rattle.event_index.specs.Events.{thread_at}
use Rattle.event_index.specs.Lookups.{events_of, section_end}
use Rattle.must_order.specs.Layout.{IsCounted}
use Rattle.must_order.specs.MustBefore.{IsMustBefore}
use Rattle.witness_search.specs.trace_order.Acquires.{IsTaken}
use Rattle.witness_search.specs.trace_order.InOrder.{EndsBetween, IsNeeded}
use Rattle.witness_search.specs.declared.trace_order.lasting.Latest.{Latest}

-- with each event, the row counts what is must-before it
abbrev pub IsDownClosed : List Event → (ℕ → ℕ) → Type 0
IsDownClosed T row = (a e : ℕ) → IsMustBefore T a e → IsCounted T row e → IsCounted T row a

-- the new row counts what the old row counts, these events and what is must-before them, and nothing else
pub record Joins (T : List Event) (these : ℕ → Type 0) (row new : ℕ → ℕ) : Type 0 where
  pub grows : (t : ℕ) → row t ≤ new t
  pub has : (d : ℕ) → these d → IsCounted T new d
  pub sound : (a : ℕ) → IsCounted T new a → IsCounted T row a ⊎ ((d : ℕ) × these d × IsMustBefore T a d)
  pub down : IsDownClosed T row → IsDownClosed T new
  pub within : ((t : ℕ) → row t ≤ length (events_of T t)) → (t : ℕ) → new t ≤ length (events_of T t)

-- all that the row counts is needed; it counts the start, and with each event what is must-before it
pub record IsJoined (T : List Event) (start : ℕ → Type 0) (row : ℕ → ℕ) : Type 0 where
  pub starts : (c : ℕ) → start c → IsCounted T row c
  pub sound : (a : ℕ) → IsCounted T row a → IsNeeded T start a
  pub down : IsDownClosed T row
  pub within : (t : ℕ) → row t ≤ length (events_of T t)

-- e is the last event of the thread that the row counts
pub record IsEndOf (T : List Event) (row : ℕ → ℕ) (t e : ℕ) : Type 0 where
  pub of : thread_at T e ≡ Some t
  pub counted : IsCounted T row e
  pub last : (a : ℕ) → thread_at T a ≡ Some t → IsCounted T row a → a ≤ e

-- p is the last of the events up to `end`
pub record IsLastUpTo (events : List ℕ) (end p : ℕ) : Type 0 where
  pub member : Contains events p
  pub low : p ≤ end
  pub last : (q : ℕ) → Contains events q → q ≤ end → q ≤ p

-- p is the last of the events that the row counts
pub record IsLastCounted (T : List Event) (row : ℕ → ℕ) (events : List ℕ) (p : ℕ) : Type 0 where
  pub member : Contains events p
  pub counted : IsCounted T row p
  pub last : (q : ℕ) → Contains events q → IsCounted T row q → q ≤ p

-- m's thread did not hold the lock before m, and the row counts m
pub record IsCountedTaken (T : List Event) (row : ℕ → ℕ) (l : ℕ) (m : Latest) : Type 0 where
  pub taken : IsTaken T l m.thread m.event
  pub counted : IsCounted T row m.event

-- no counted event of the lane is later than the latest acquire
abbrev pub IsUpToLatest : List Event → (ℕ → ℕ) → Option Latest → List ℕ → Type 0
IsUpToLatest T row latest events = (q : ℕ) → Contains events q → IsCounted T row q → (m : Latest) × (latest ≡ Some m) × (q ≤ m.event)

-- if the row counts one of these events, it counts the end of its section
abbrev pub AreEnded : List Event → (ℕ → ℕ) → List ℕ → Type 0
AreEnded T row events = (p r : ℕ) → Contains events p → IsCounted T row p → section_end T p ≡ Some r → IsCounted T row r

-- the row has to count r, since it counts two acquires of a lock, and does not
pub record IsDue (T : List Event) (row : ℕ → ℕ) (r : ℕ) : Type 0 where
  pub first : ℕ
  pub second : ℕ
  pub ends : EndsBetween T first r second
  pub has : IsCounted T row first
  pub also : IsCounted T row second
  pub missing : ¬ IsCounted T row r

-- for each two counted acquires of the lock by different threads, the row counts the end of the earlier section
abbrev pub IsClosedOn : List Event → (ℕ → ℕ) → ℕ → Type 0
IsClosedOn T row l = (p r e : ℕ) (s : EndsBetween T p r e) → s.lock ≡ l → IsCounted T row p → IsCounted T row e → IsCounted T row r
