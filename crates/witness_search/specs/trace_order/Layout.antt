-- Sets of events as one count for each thread. No public clause cites this module. `T` is the events of a trace. A
-- row counts, for each thread, its first events.
use Rattle.std.specs.Prelude.{◌≡◌, ◌≢◌, ◌⊎◌, ◌↔◌, ℕ, ◌<◌, ◌≤◌, List, length, slice_index, Option, Some, None, AllPairs, Contains}
use Rattle.rapid_text.specs.declared.event.Event.{Event}
use Rattle.rapid_text.specs.declared.event.Op.TheVariants.{Acquire}
use Rattle.event_index.specs.Events.{op_at, thread_at}
use Rattle.event_index.specs.Lookups.{events_of, base_of, section_end}
use Rattle.must_order.specs.Layout.{source_of, IsCounted}
use Rattle.witness_search.specs.trace_order.InOrder.{IsNeeded}

-- e is the first or the second event, if they exist
abbrev pub IsEither : Option ℕ → Option ℕ → ℕ → Type 0
IsEither first second e = (first ≡ Some e) ⊎ (second ≡ Some e)

-- the row counts exactly the needed events
abbrev pub IsNeededRow : List Event → (ℕ → Type 0) → (ℕ → ℕ) → Type 0
IsNeededRow T start row = (e : ℕ) → IsCounted T row e ↔ IsNeeded T start e

-- thread t has an event that the row counts and that was not visited
abbrev pub IsBehind : List ℕ → List ℕ → ℕ → Type 0
IsBehind row visited t = (t < length row) × (slice_index visited t < slice_index row t)

-- a is one of these events, or comes before one in its thread
abbrev pub IsUpTo : List Event → (ℕ → Type 0) → ℕ → Type 0
IsUpTo T these a = (d : ℕ) × these d × (t : ℕ) × (thread_at T a ≡ Some t) × (thread_at T d ≡ Some t) × (a ≤ d)

-- the new row counts what the old row counts, these events and those before them in their threads, and nothing else
pub record Takes (T : List Event) (these : ℕ → Type 0) (row new : ℕ → ℕ) : Type 0 where
  pub grows : (t : ℕ) → row t ≤ new t
  pub has : (d : ℕ) → these d → IsCounted T new d
  pub sound : (a : ℕ) → IsCounted T new a → IsCounted T row a ⊎ IsUpTo T these a
  pub within : ((t : ℕ) → row t ≤ length (events_of T t)) → (t : ℕ) → new t ≤ length (events_of T t)

-- The section end that an acquire e requires, given the last visited acquire of its lock. The section of the earlier
-- of the two has to end, unless e is in it. `after` is the last acquire of the lock then.
pub data IsStep (T : List Event) (e : ℕ) (last owed : Option ℕ) (after : ℕ) : Type 0 where
  begun : last ≡ None → owed ≡ None → after ≡ e → IsStep T e last owed after
  later : (m r : ℕ) → last ≡ Some m → m ≤ e → section_end T m ≡ Some r → r < e → owed ≡ Some r → after ≡ e → IsStep T e last owed after
  inner : (m : ℕ) → last ≡ Some m → m ≤ e → ((r : ℕ) → section_end T m ≡ Some r → e ≤ r) → owed ≡ None → after ≡ m → IsStep T e last owed after
  earlier : (m : ℕ) → last ≡ Some m → e < m → owed ≡ section_end T e → after ≡ m → IsStep T e last owed after

-- the effect of visiting an acquire of the lock on the row and the last acquires
pub record IsLockVisit (T : List Event) (e lock : ℕ) (row new : ℕ → ℕ) (latest next : ℕ → Option ℕ) : Type 0 where
  pub owed : Option ℕ
  pub after : ℕ
  pub step : IsStep T e (latest lock) owed after
  pub taken : Takes T (λ d. owed ≡ Some d) row new
  pub here : next lock ≡ Some after
  pub others : (l : ℕ) → l ≢ lock → next l ≡ latest l

-- what e requires, apart from locks
abbrev pub IsSought : List Event → ℕ → ℕ → Type 0
IsSought T e d = (base_of T e ≡ Some d) ⊎ (source_of T e ≡ Some d)

-- the effect of visiting e on the row and the last acquires
pub record IsVisit (T : List Event) (e : ℕ) (row new : ℕ → ℕ) (latest next : ℕ → Option ℕ) : Type 0 where
  pub middle : ℕ → ℕ
  pub sought : Takes T (IsSought T e) row middle
  pub rest :
      ((l : ℕ) × (op_at T e ≡ Some (Acquire l)) × IsLockVisit T e l middle new latest next)
      ⊎ (((l : ℕ) → op_at T e ≢ Some (Acquire l)) × ((t : ℕ) → new t ≡ middle t) × ((l : ℕ) → next l ≡ latest l))

-- P has exactly the events that the row counts, in the order of the trace
pub record IsCountedList (T : List Event) (row : ℕ → ℕ) (P : List ℕ) : Type 0 where
  pub rising : AllPairs (λ x y. x < y) P
  pub members : (e : ℕ) → Contains P e ↔ IsCounted T row e

-- P has those of them that are before event n
pub record IsCountedUpTo (T : List Event) (row : ℕ → ℕ) (n : ℕ) (P : List ℕ) : Type 0 where
  pub rising : AllPairs (λ x y. x < y) P
  pub members : (e : ℕ) → Contains P e ↔ ((e < n) × IsCounted T row e)

-- the row counts n events
abbrev pub IsListLength : List Event → (ℕ → ℕ) → ℕ → Type 0
IsListLength T row n = (P : List ℕ) × IsCountedList T row P × (length P ≡ n)

-- ts are the threads below n with an event that the row counts
pub record AreCountedThreads (row : ℕ → ℕ) (n : ℕ) (ts : List ℕ) : Type 0 where
  pub rising : AllPairs (λ x y. x < y) ts
  pub members : (t : ℕ) → Contains ts t ↔ ((t < n) × (0 < row t))

-- there are k such threads
abbrev pub IsThreadCount : (ℕ → ℕ) → ℕ → ℕ → Type 0
IsThreadCount row n k = (ts : List ℕ) × AreCountedThreads row n ts × (length ts ≡ k)
