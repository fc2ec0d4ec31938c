-- Uses: the accesses of chosen variables, in rows of one place and one operation. `T` is the events of a trace, named
-- by their numbers. `places` has the number of each event's place, and `chosen` says of each variable whether it is
-- chosen. All notions here are this project's own.
use Rattle.std.specs.Prelude.{ℕ, ◌+◌, ◌*◌, ◌==◌, ◌&&◌, nat_lt, not, Bool, false, cond, List, map, take, filter, count_by, length, Option, Some, None, slice_get, slice_index, slice_index_or}
use Rattle.std.specs.List.{list_any}
use Rattle.rapid_text.specs.declared.event.Event.{Event}
use Rattle.rapid_text.specs.declared.event.Op.{Op}
use Rattle.rapid_text.specs.declared.event.Op.TheVariants.{Read, Write}
use Rattle.trace_rules.specs.Rules.{hold_count}
use Rattle.event_index.specs.Events.{passes_at}
use Rattle.event_index.specs.Lookups.{before, events_of}

-- the key of an operation at a place: 0 if it accesses no chosen variable, else odd for a read and even for a write
abbrev pub key_of : List Bool → ℕ → Op → ℕ
key_of chosen place (Read x) = cond (slice_index_or chosen x false) (2 * place + 1) 0
key_of chosen place (Write x) = cond (slice_index_or chosen x false) (2 * place + 2) 0
key_of chosen place op = 0

abbrev pub key_by : List Bool → ℕ → Option Event → ℕ
key_by chosen place None = 0
key_by chosen place (Some v) = key_of chosen place v.op

-- the key of event e; two accesses are in one row exactly if their keys are equal
abbrev pub key_at : List Event → List ℕ → List Bool → ℕ → ℕ
key_at T places chosen e = key_by chosen (slice_index places e) (slice_get T e)

-- the keys of all events
abbrev pub keys_of : List Event → List ℕ → List Bool → List ℕ
keys_of T places chosen = map (key_at T places chosen) (before (length T))

-- whether event e has the key
abbrev pub has_key : List ℕ → ℕ → ℕ → Bool
has_key keys key e = slice_index keys e == key

-- whether event e is in a row, and is the first of it
abbrev pub is_first : List ℕ → ℕ → Bool
is_first keys e = nat_lt 0 (slice_index keys e) && not (list_any (has_key keys (slice_index keys e)) (before e))

-- the first accesses of all rows, in rising order
abbrev pub firsts_of : List ℕ → List ℕ
firsts_of keys = filter (is_first keys) (before (length keys))

-- how many of the first n events pass the test
abbrev pub count_in : ℕ → (ℕ → Bool) → ℕ
count_in n test = count_by test (before n)

-- how many of the first n threads have an event that passes the test
abbrev pub threads_in : List Event → ℕ → (ℕ → Bool) → ℕ
threads_in T n test = count_by (λ t. list_any test (events_of T t)) (before n)

-- whether the thread of event e holds the lock before it
abbrev pub is_held_at : List Event → ℕ → ℕ → Bool
is_held_at T l e = passes_at (λ v. nat_lt 0 (hold_count (take e T) v.thread l)) T e
