-- Rows of counts on their way to what the requests require. No public clause cites this module. `T` is the events of a
-- trace, and `es` are the requests. A row counts, for each thread, its first events.
use Rattle.std.specs.Prelude.{◌≡◌, ℕ, ◌<◌, ◌≤◌, List, length, slice_index, Some, None, Contains}
use Rattle.rapid_text.specs.declared.event.Event.{Event}
use Rattle.event_index.specs.Lookups.{base_of, events_of, section_end}
use Rattle.must_order.specs.Layout.{IsCounted}
use Rattle.witness_search.specs.trace_order.Joining.{Joins, IsDownClosed}
use Rattle.lock_waits.specs.Required.{IsForeign, IsRequired}

-- the row counts the end of the section that p begins
abbrev pub IsEndCounted : List Event → (ℕ → ℕ) → ℕ → Type 0
IsEndCounted T row p = (r : ℕ) × (section_end T p ≡ Some r) × IsCounted T row r

-- The row counts only what is required, and with each event what is must-before it. It counts the bases of the first n
-- requests. If a visited event begins another thread's section of a lock that a request's thread holds, the row counts
-- the section's end.
pub record IsGathering (T : List Event) (es : List ℕ) (n : ℕ) (row visited : ℕ → ℕ) : Type 0 where
  pub sound : (a : ℕ) → IsCounted T row a → IsRequired T es a
  pub down : IsDownClosed T row
  pub within : (t : ℕ) → row t ≤ length (events_of T t)
  pub le : (t : ℕ) → visited t ≤ row t
  pub bases : (i c : ℕ) → i < n → base_of T (slice_index es i) ≡ Some c → IsCounted T row c
  pub ended : (e p : ℕ) → Contains es e → IsCounted T visited p → IsForeign T e p → IsEndCounted T row p

-- no event was visited
abbrev pub none_visited : ℕ → ℕ
none_visited t = 0

-- p begins another thread's section of a lock that some request's thread holds
abbrev pub IsForeignToSome : List Event → List ℕ → ℕ → Type 0
IsForeignToSome T es p = (e : ℕ) × Contains es e × IsForeign T e p

-- the end of p's section was joined if it has to be counted
pub data IsEnding (T : List Event) (es : List ℕ) (p : ℕ) (row new : ℕ → ℕ) : Type 0 where
  free : ¬ IsForeignToSome T es p → ((t : ℕ) → new t ≡ row t) → IsEnding T es p row new
  joined : (r : ℕ) → IsForeignToSome T es p → section_end T p ≡ Some r → Joins T (λ d. Some r ≡ Some d) row new → IsEnding T es p row new

-- p's section has to end and has no end
abbrev pub IsBarred : List Event → List ℕ → ℕ → Type 0
IsBarred T es p = IsForeignToSome T es p × (section_end T p ≡ None)

-- the row counts one of the requests
abbrev pub CountsOneOf : List Event → (ℕ → ℕ) → List ℕ → Type 0
CountsOneOf T row es = (e : ℕ) × Contains es e × IsCounted T row e
