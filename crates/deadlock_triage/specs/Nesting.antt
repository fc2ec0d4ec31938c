-- How far the sections of each thread reach. No public clause cites this module. `r` is the recording of a trace.
use Rattle.std.specs.Prelude.{◌≡◌, ℕ, ◌<◌, ◌≤◌, List, AllPairs, Contains, length, slice_index, Some, None}
use Rattle.rapid_text.specs.Recording.{Recording}
use Rattle.rapid_text.specs.declared.event.Op.TheVariants.{Acquire}
use Rattle.event_index.specs.Events.{op_at, thread_at}
use Rattle.event_index.specs.Lookups.{section_end}
use Rattle.deadlock_triage.specs.Requests.{IsNested}

-- event p of thread t, one of the first n events, acquires the lock
pub record IsAcquireOf (r : Recording) (n t p l : ℕ) : Type 0 where
  pub early : p < n
  pub acquires : op_at r.events p ≡ Some (Acquire l)
  pub of : thread_at r.events p ≡ Some t

-- For each thread, the greatest end of a section that one of its first events begins. A section that never ends counts
-- as if it ended after the last event. 0 means that there is no section.
pub record IsReach (r : Recording) (n : ℕ) (reach : List ℕ) : Type 0 where
  pub len : length reach ≡ length r.threads
  pub far : (t p l e : ℕ) → IsAcquireOf r n t p l → section_end r.events p ≡ Some e → e ≤ slice_index reach t
  pub open_ended : (t p l : ℕ) → IsAcquireOf r n t p l → section_end r.events p ≡ None → length r.events ≤ slice_index reach t
  pub begun : (t : ℕ) → 0 < slice_index reach t
      → (p : ℕ) × (l : ℕ) × IsAcquireOf r n t p l × ((e : ℕ) → section_end r.events p ≡ Some e → slice_index reach t ≤ e)

-- The nested requests among the first n events, in rising order.
pub record AreNestedBelow (r : Recording) (n : ℕ) (nested : List ℕ) : Type 0 where
  pub rising : AllPairs ◌<◌ nested
  pub are : (e : ℕ) → Contains nested e → (e < n) × IsNested r e
  pub all : (e : ℕ) → e < n → IsNested r e → Contains nested e
