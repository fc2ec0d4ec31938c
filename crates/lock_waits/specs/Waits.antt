-- Deadlocks that a schedule shows: requests of locks that wait for one another in a circle. The patterns are those of
-- Tunc, Mathur, Pavlogiannis and Viswanathan, "Sound dynamic deadlock prediction in linear time" (PLDI 2023). Here the
-- locks that two threads hold may meet: `GuardedIsNeverShown` says what follows. `T` is the events of a trace, named by
-- their numbers; `P` and `es` are lists of event numbers, and `es` are the requests.
use Rattle.std.specs.Prelude.{◌≡◌, ◌≢◌, ℕ, ◌+◌, ◌-◌, ◌<◌, ◌≤◌, List, length, slice_index, Some, All, AllPairs}
use Rattle.rapid_text.specs.declared.event.Event.{Event}
use Rattle.rapid_text.specs.declared.event.Op.TheVariants.{Acquire}
use Rattle.event_index.specs.Events.{op_at, thread_at}
use Rattle.schedule.specs.Shows.{IsReady}
use Rattle.must_order.specs.MustBefore.{IsHeldBefore}

-- e acquires a lock that the thread of d holds before d
pub record WaitsFor (T : List Event) (e d : ℕ) : Type 0 where
  pub lock : ℕ
  pub acquires : op_at T e ≡ Some (Acquire lock)
  pub held : IsHeldBefore T d lock

-- the two events are of different threads
abbrev pub AreOfTwoThreads : List Event → ℕ → ℕ → Type 0
AreOfTwoThreads T e d = thread_at T e ≢ thread_at T d

-- two or more requests of different threads, in a circle: each waits for the next one, and the last for the first
pub record IsCycle (T : List Event) (es : List ℕ) : Type 0 where
  pub several : 2 ≤ length es
  pub threads : AllPairs (AreOfTwoThreads T) es
  pub waits : (i : ℕ) → i + 1 < length es → WaitsFor T (slice_index es i) (slice_index es (i + 1))
  pub closed : WaitsFor T (slice_index es (length es - 1)) (slice_index es 0)

-- after P each request is the next event of its thread
abbrev pub AreReady : List Event → List ℕ → List ℕ → Type 0
AreReady T P es = All (IsReady T P) es

-- P shows the deadlock: the requests are a cycle, and each is the next event of its thread
pub record ShowsDeadlock (T : List Event) (P es : List ℕ) : Type 0 where
  pub cycle : IsCycle T es
  pub ready : AreReady T P es
