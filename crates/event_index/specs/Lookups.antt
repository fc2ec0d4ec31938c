-- What the look-ups of an index return. `T` is the events of a trace, named by their numbers. The last writer is that
-- of Mathur, Kini and Viswanathan, "What happens-after the first race?" (OOPSLA 2018). The end of a section and the
-- base are this project's own.
use Rattle.std.specs.Prelude.{ℕ, Bool, ◌+◌, ◌-◌, ◌==◌, ◌&&◌, nat_lt, List, reverse, length, take, filter, find, count_by, slice_get, Option, Some, None}
use Rattle.std.specs.List.{range_with_len}
use Rattle.rapid_text.specs.Operations.{is_release}
use Rattle.rapid_text.specs.declared.event.Event.{Event}
use Rattle.rapid_text.specs.declared.event.Op.{Op}
use Rattle.rapid_text.specs.declared.event.Op.TheVariants.{Read, Acquire}
use Rattle.trace_rules.specs.Rules.{hold_count}
use Rattle.event_index.specs.Events.{op_at, passes_at, is_of_thread, is_write_at, is_fork_at}

-- the numbers of the events before e, in rising order
abbrev pub before : ℕ → List ℕ
before e = range_with_len 0 e

-- the events of the thread, in the order of the trace
abbrev pub events_of : List Event → ℕ → List ℕ
events_of T t = filter (is_of_thread T t) (before (length T))

-- how many of the first e events are of the thread
abbrev pub count_before : List Event → ℕ → ℕ → ℕ
count_before T e t = count_by (λ v. v.thread == t) (take e T)

abbrev pub place_by : List Event → ℕ → Option Event → ℕ
place_by T e None = 0
place_by T e (Some v) = count_before T e v.thread

-- the place of the event in its thread: the number of events of that thread before it
abbrev pub place_of : List Event → ℕ → ℕ
place_of T e = place_by T e (slice_get T e)

-- the last write of the variable among the events es, which are in the order of the trace
abbrev pub last_write : List Event → ℕ → List ℕ → Option ℕ
last_write T x es = find (is_write_at T x) (reverse es)

abbrev pub last_writer_by : List Event → ℕ → Option Op → Option ℕ
last_writer_by T e (Some (Read x)) = last_write T x (before e)
last_writer_by T e op = None

-- the write that the read e sees in the trace, or None; also None if e is not a read
abbrev pub last_writer : List Event → ℕ → Option ℕ
last_writer T e = last_writer_by T e (op_at T e)

-- the event that forks the thread, if one does
abbrev pub fork_of : List Event → ℕ → Option ℕ
fork_of T u = find (is_fork_at T u) (before (length T))

abbrev pub or_else : Option ℕ → Option ℕ → Option ℕ
or_else None other = other
or_else (Some e) other = Some e

abbrev pub base_by : List Event → ℕ → Option Event → Option ℕ
base_by T e None = None
base_by T e (Some v) = or_else (find (is_of_thread T v.thread) (reverse (before e))) (fork_of T v.thread)

-- the base of the event: the event before it in its thread; for the first event the fork of the thread, or None
abbrev pub base_of : List Event → ℕ → Option ℕ
base_of T e = base_by T e (slice_get T e)

-- whether event j is a release of l by t after which t holds l as often as before event e
abbrev pub is_end : List Event → ℕ → ℕ → ℕ → ℕ → Bool
is_end T e t l j =
    passes_at (λ v. v.thread == t && is_release l v.op) T j && hold_count (take (j + 1) T) t l == hold_count (take e T) t l

abbrev pub section_by : List Event → ℕ → ℕ → ℕ → Op → Option ℕ
section_by T i e t (Acquire l) = find (is_end T e t l) (range_with_len (e + 1) (i - (e + 1)))
section_by T i e t op = None

abbrev pub section_of : List Event → ℕ → ℕ → Option Event → Option ℕ
section_of T i e None = None
section_of T i e (Some v) = section_by T i e v.thread v.op

-- the release among the first i events that ends the critical section of the acquire e: the first by its thread after
-- which the thread holds the lock as often as before e
abbrev pub end_before : List Event → ℕ → ℕ → Option ℕ
end_before T i e = section_of T i e (slice_get T e)

-- the release that ends the critical section of the acquire e, or None; also None if e is not an acquire
abbrev pub section_end : List Event → ℕ → Option ℕ
section_end T = end_before T (length T)

-- how many events are of threads below t
abbrev pub start_of : List Event → ℕ → ℕ
start_of T t = count_by (λ v. nat_lt v.thread t) T
