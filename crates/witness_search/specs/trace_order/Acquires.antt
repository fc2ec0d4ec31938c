-- For each lock and thread, the acquires whose thread did not hold the lock before. No public clause cites this
-- module. `T` is the events of a trace. A row counts, for each thread, its first events.
use Rattle.std.specs.Prelude.{◌≡◌, ◌⊎◌, ◌↔◌, ℕ, ◌<◌, ◌≤◌, true, Vec, List, length, Some, slice_get, slice_index_or, All, AllPairs, Contains}
use Rattle.std.specs.Global.{Global}
use Rattle.rapid_text.specs.Recording.{Recording}
use Rattle.rapid_text.specs.declared.event.Event.{Event}
use Rattle.event_index.specs.Events.{thread_at}
use Rattle.event_index.specs.Lookups.{place_of}
use Rattle.must_order.specs.Sections.{is_outer}
use Rattle.witness_search.specs.trace_order.Tables.{AreReachesUpTo, AreWritesUpTo}
use Rattle.witness_search.specs.declared.trace_order.acquires.Lane.{Lane}
use Rattle.witness_search.specs.declared.trace_order.acquires.Acquires.TheInside.{Inside}

-- event e of thread t acquires the lock, which t does not hold before it
abbrev pub IsTaken : List Event → ℕ → ℕ → ℕ → Type 0
IsTaken T l t e = (is_outer T l e ≡ true) × (thread_at T e ≡ Some t)

-- event e is of a thread below t, or is one of the first k events of thread t
pub record IsPassed (T : List Event) (t k e : ℕ) : Type 0 where
  pub thread : ℕ
  pub of : thread_at T e ≡ Some thread
  pub passed : (thread < t) ⊎ ((thread ≡ t) × (place_of T e < k))

-- the i-th lane is that of thread u
abbrev pub IsOneOf : List Lane → ℕ → ℕ → Type 0
IsOneOf lanes i u = (d : Lane) → (slice_index_or lanes i d).thread ≡ u

-- the lane has its thread's acquires among the events passed
pub record IsLaneUpTo (T : List Event) (l t k : ℕ) (lane : Lane) : Type 0 where
  pub rising : AllPairs (λ x y. x < y) lane.events.items
  pub members : (e : ℕ) → Contains lane.events.items e ↔ (IsTaken T l lane.thread e × IsPassed T t k e)

-- each thread whose events were passed has at most one lane, in rising order of the threads
pub record AreLanesUpTo (T : List Event) (width l t k : ℕ) (lanes : List Lane) : Type 0 where
  pub named : All (λ lane. lane.thread < width) lanes
  pub sound : All (IsLaneUpTo T l t k) lanes
  pub complete : (e u : ℕ) → IsTaken T l u e → IsPassed T t k e → (i : ℕ) × (i < length lanes) × IsOneOf lanes i u
  pub threads : All (λ lane. lane.thread ≤ t) lanes
  pub rising : AllPairs (λ a b. a.thread < b.thread) lanes

-- the lanes of each lock, after the events passed
pub record AreTakenUpTo (r : Recording) (t k : ℕ) (by_lock : List (Vec Lane Global)) : Type 0 where
  pub len : length by_lock ≡ length r.locks
  pub lanes : (l : ℕ) (v : Vec Lane Global) → slice_get by_lock l ≡ Some v → AreLanesUpTo r.events (length r.threads) l t k v.items

-- the lane has all such acquires of its thread
pub record IsLane (r : Recording) (l : ℕ) (lane : Lane) : Type 0 where
  pub rising : AllPairs (λ x y. x < y) lane.events.items
  pub members : (e : ℕ) → Contains lane.events.items e ↔ IsTaken r.events l lane.thread e
  pub named : lane.thread < length r.threads

-- each thread that acquires the lock has a lane
pub record AreLanes (r : Recording) (l : ℕ) (lanes : List Lane) : Type 0 where
  pub sound : All (IsLane r l) lanes
  pub complete : (e u : ℕ) → IsTaken r.events l u e → (i : ℕ) × (i < length lanes) × IsOneOf lanes i u

pub record AreTaken (r : Recording) (by_lock : List (Vec Lane Global)) : Type 0 where
  pub len : length by_lock ≡ length r.locks
  pub lanes : (l : ℕ) (v : Vec Lane Global) → slice_get by_lock l ≡ Some v → AreLanes r l v.items

-- each lock with more than one lane is in the list
pub record AreShared (by_lock : List (Vec Lane Global)) (shared : List ℕ) : Type 0 where
  pub within : All (λ l. l < length by_lock) shared
  pub all : (l : ℕ) (v : Vec Lane Global) → slice_get by_lock l ≡ Some v → 1 < length v.items → Contains shared l

-- what holds for the fields
pub record AreAcquires (s : Inside) : Type 0 where
  pub taken : AreTaken s.trace.value s.by_lock.items
  pub shared : AreShared s.by_lock.items s.shared.items
  pub writes : AreWritesUpTo s.trace.value (length s.trace.value.events) s.writes.items
  pub reach : AreReachesUpTo s.trace.value.events (length s.trace.value.events) s.reach.items
