-- How the pairs that a schedule shows are found: both events of a pair are next in their threads. No public clause
-- cites this module. `T` is the events of a trace, `P` those of a schedule.
use Rattle.std.specs.Prelude.{ℕ, ◌&&◌, nat_lt, Bool, false, List, filter, length, slice_get, Option, Some, None}
use Rattle.rapid_text.specs.declared.event.Event.{Event}
use Rattle.event_index.specs.Lookups.{before}
use Rattle.schedule.specs.Refusals.{same_option, next_of}

abbrev pub next_by : List Event → List ℕ → ℕ → Option Event → Bool
next_by T P e (Some v) = same_option (next_of T P v.thread) (Some e)
next_by T P e None = false

-- whether e is next in its thread after P
abbrev pub is_next : List Event → List ℕ → ℕ → Bool
is_next T P e = next_by T P e (slice_get T e)

abbrev pub next_below_by : List Event → List ℕ → ℕ → ℕ → Option Event → Bool
next_below_by T P t e (Some v) = nat_lt v.thread t && same_option (next_of T P v.thread) (Some e)
next_below_by T P t e None = false

-- whether e is next in its thread after P, and its thread is below t
abbrev pub is_next_below : List Event → List ℕ → ℕ → ℕ → Bool
is_next_below T P t e = next_below_by T P t e (slice_get T e)

-- the events that are next in their threads after P, rising
abbrev pub next_events : List Event → List ℕ → List ℕ
next_events T P = filter (is_next T P) (before (length T))
