-- An access: its line of the trace, and the locks that its thread holds before it. `r` is a recording. All notions
-- here are this project's own.
use Rattle.std.specs.Prelude.{ℕ, nat_lt, Bool, false, List, [], ◌++◌, length, take, filter, flat_map, slice_get, slice_index_or, Option, Some, None, codes, decimal}
use Rattle.rapid_text.specs.Canonical.{name_at, op_text}
use Rattle.rapid_text.specs.Recording.{Recording}
use Rattle.rapid_text.specs.declared.event.Event.{Event}
use Rattle.trace_rules.specs.Rules.{hold_count}
use Rattle.event_index.specs.Events.{thread_at}
use Rattle.event_index.specs.Lookups.{before}

-- an event as `thread|word(name)|location`
abbrev pub event_words : Recording → Event → List ℕ → List ℕ
event_words r v location = name_at r.threads v.thread ++ codes "|" ++ op_text r v.op ++ codes "|" ++ location

abbrev pub event_words_by : Recording → ℕ → Option Event → List ℕ
event_words_by r e None = []
event_words_by r e (Some v) = event_words r v (slice_index_or r.locations e [])

-- event e in that form; empty if there is no such event
abbrev pub event_words_at : Recording → ℕ → List ℕ
event_words_at r e = event_words_by r e (slice_get r.events e)

-- whether the thread holds the lock before event e
abbrev pub is_held_by : Recording → ℕ → Option ℕ → ℕ → Bool
is_held_by r e None l = false
is_held_by r e (Some t) l = nat_lt 0 (hold_count (take e r.events) t l)

-- the locks that event e's thread holds before it, in rising order of their numbers
abbrev pub held_locks : Recording → ℕ → List ℕ
held_locks r e = filter (is_held_by r e (thread_at r.events e)) (before (length r.locks))

abbrev pub lock_line : Recording → ℕ → List ℕ
lock_line r l = codes "    holds " ++ name_at r.locks l ++ codes "\n"

abbrev pub lock_lines : Recording → List ℕ → List ℕ
lock_lines r ls = flat_map (lock_line r) ls

abbrev pub access_by : Recording → ℕ → Option Event → List ℕ
access_by r e None = []
access_by r e (Some v) = codes "  " ++ event_words_at r e ++ codes "\n" ++ lock_lines r (held_locks r e)

-- the line of event e, and a line for each lock that is held
abbrev pub access_text : Recording → ℕ → List ℕ
access_text r e = access_by r e (slice_get r.events e)

abbrev pub numbered_access_by : Recording → ℕ → Option Event → List ℕ
numbered_access_by r e None = []
numbered_access_by r e (Some v) = decimal e ++ access_text r e

-- the same after the event's number
abbrev pub numbered_access : Recording → ℕ → List ℕ
numbered_access r e = numbered_access_by r e (slice_get r.events e)

-- both accesses of a pair
abbrev pub pair_text : Recording → ℕ → ℕ → List ℕ
pair_text r a b = numbered_access r a ++ numbered_access r b
