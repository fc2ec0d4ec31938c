-- Which acquires may wait for ever. `r` is the recording of a trace, and `T` is its events.
use Rattle.std.specs.Prelude.{◌≡◌, ℕ, ◌<◌, List, [], ◌∷◌, Some, Contains, AllPairs, length, slice_get}
use Rattle.rapid_text.specs.Recording.{Recording}
use Rattle.rapid_text.specs.declared.event.Op.TheVariants.{Acquire}
use Rattle.event_index.specs.Events.{op_at}
use Rattle.must_order.specs.MustBefore.{IsHeldBefore}
use Rattle.lock_waits.specs.Waits.{IsCycle, WaitsFor}
use Rattle.deadlock_triage.specs.Tries.{IsTry}

-- Event e acquires a lock and may wait for ever. Its location does not mark a try, and its thread does not hold the
-- lock yet.
pub record IsRequest (r : Recording) (e : ℕ) : Type 0 where
  pub lock : ℕ
  pub acquires : op_at r.events e ≡ Some (Acquire lock)
  pub waits : (location : List ℕ) → slice_get r.locations e ≡ Some location → ¬ IsTry location
  pub fresh : ¬ IsHeldBefore r.events e lock

-- Event e is a request, and its thread holds another lock before it.
pub record IsNested (r : Recording) (e : ℕ) : Type 0 where
  pub request : IsRequest r e
  pub other : ℕ
  pub holds : IsHeldBefore r.events e other

-- Two requests that wait for each other; the earlier one is first. So each cycle of two requests has one name.
pub record IsPair (r : Recording) (e d : ℕ) : Type 0 where
  pub earlier : e < d
  pub first : IsRequest r e
  pub second : IsRequest r d
  pub cycle : IsCycle r.events (e ∷ d ∷ [])

-- the events are all nested requests of the trace, in rising order
pub record AreNested (r : Recording) (nested : List ℕ) : Type 0 where
  pub rising : AllPairs ◌<◌ nested
  pub are : (e : ℕ) → Contains nested e → IsNested r e
  pub all : (e : ℕ) → IsNested r e → Contains nested e

-- the trace has this many nested requests
abbrev pub IsNestedCount : Recording → ℕ → Type 0
IsNestedCount r n = (nested : List ℕ) × AreNested r nested × (length nested ≡ n)
