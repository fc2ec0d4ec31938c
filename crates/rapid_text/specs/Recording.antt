-- What a contract sees of a trace: its events, and the names for their numbers.
use Rattle.std.specs.Prelude.{◌≡◌, ℕ, ◌<◌, ◌≤◌, List, length, All}
use Rattle.rapid_text.specs.declared.event.Event.{Event}
use Rattle.rapid_text.specs.declared.event.Op.{Op}
use Rattle.rapid_text.specs.declared.event.Op.TheVariants.{Read, Write, Acquire, Release, Fork, Join}
use Rattle.rapid_text.specs.Limits.{event_limit, thread_limit}

-- The events in the order of the recording; the names of threads, variables and locks, each in the order of their
-- numbers; and a location for each event. Names and locations are bytes.
pub record Recording : Type 0 where
  pub events : List Event
  pub threads : List (List ℕ)
  pub variables : List (List ℕ)
  pub locks : List (List ℕ)
  pub locations : List (List ℕ)

-- the number in the operation has a name
abbrev pub IsNamedOp : Recording → Op → Type 0
IsNamedOp r (Read x) = x < length r.variables
IsNamedOp r (Write x) = x < length r.variables
IsNamedOp r (Acquire l) = l < length r.locks
IsNamedOp r (Release l) = l < length r.locks
IsNamedOp r (Fork u) = u < length r.threads
IsNamedOp r (Join u) = u < length r.threads

-- both numbers in the event have names
abbrev pub IsNamed : Recording → Event → Type 0
IsNamed r e = (e.thread < length r.threads) × IsNamedOp r e.op

-- A recording within this project's limits, in which each number has a name.
pub record IsWellFormed (r : Recording) : Type 0 where
  pub events : length r.events ≤ event_limit
  pub threads : length r.threads ≤ thread_limit
  pub variables : length r.variables ≤ event_limit
  pub locks : length r.locks ≤ event_limit
  pub locations : length r.locations ≡ length r.events
  pub named : All (IsNamed r) r.events
