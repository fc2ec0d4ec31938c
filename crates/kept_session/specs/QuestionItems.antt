-- What an answer says about a thread's next event. All texts are this project's own.
use Rattle.std.specs.Prelude.{◌≡◌, ℕ, zero, suc, ◌+◌, nat_lt, if◌then◌else◌, List, [], ◌∷◌, ◌++◌, flat_map, length, Option, Some, None, codes, decimal}
use Rattle.std.specs.List.{range_with_len}
use Rattle.rapid_text.specs.Recording.{Recording}
use Rattle.rapid_text.specs.declared.event.Event.{Event}
use Rattle.schedule.specs.declared.refusal.Disabled.{Disabled}
use Rattle.schedule.specs.declared.refusal.Disabled.TheVariants.{NoSuchEvent, NotNext, NotForked, WrongWriter, LockHeld, JoinEarly}
use Rattle.schedule.specs.Refusals.{next_of, refusal_of}
use Rattle.report.specs.Causes.{event_words}

-- why an event is not enabled: the number of the cause, and the numbers of the threads and events that it names
abbrev pub cause_words : Disabled → List ℕ
cause_words NoSuchEvent = codes ":21"
cause_words NotNext = codes ":22"
cause_words NotForked = codes ":23"
cause_words (WrongWriter needs has) = codes ":24:" ++ event_words needs ++ codes ":" ++ event_words has
cause_words (LockHeld thread) = codes ":25:" ++ decimal thread
cause_words JoinEarly = codes ":26"

abbrev pub refused_words : Option Disabled → List ℕ
refused_words None = []
refused_words (Some cause) = cause_words cause

-- an event after P: its number alone if it is enabled, else with the cause why `add` refuses it
abbrev pub item : List Event → List ℕ → ℕ → List ℕ
item T P e = codes " " ++ decimal e ++ refused_words (refusal_of T P e)

abbrev pub item_of : List Event → List ℕ → Option ℕ → List ℕ
item_of T P None = []
item_of T P (Some e) = item T P e

-- the item of the thread's first event that is not in P
abbrev pub thread_item : List Event → List ℕ → ℕ → List ℕ
thread_item T P t = item_of T P (next_of T P t)

-- the items of the first n threads
abbrev pub thread_items : List Event → List ℕ → ℕ → List ℕ
thread_items T P n = flat_map (thread_item T P) (range_with_len 0 n)

-- n more events
abbrev pub added : ℕ → ℕ × List ℕ → ℕ × List ℕ
added n r = (n + r.0, r.1)

abbrev pub run_by : List Event → List ℕ → ℕ → Option Disabled → ℕ × List ℕ → ℕ × List ℕ
run_by T P e None more = added 1 more
run_by T P e (Some cause) more = (0, item T P e)

abbrev pub run_from : List Event → List ℕ → ℕ → Option ℕ → (ℕ → ℕ × List ℕ) → ℕ × List ℕ
run_from T P last None more = (0, [])
run_from T P last (Some e) more = if nat_lt last e then (0, []) else run_by T P e (refusal_of T P e) (more e)

-- How many events of thread t, from its next one after P up to `last`, can be added one after another, at most n.
-- Then the item of the first event that cannot be added.
abbrev pub run_of : ℕ → List Event → List ℕ → ℕ → ℕ → ℕ × List ℕ
run_of zero T P t last = (0, [])
run_of (suc n) T P t last = run_from T P last (next_of T P t) (λ e. run_of n T (P ++ e ∷ []) t last)

-- the items of all threads of the recording
abbrev pub all_items : Recording → List ℕ → List ℕ
all_items r P = thread_items r.events P (length r.threads)

-- A thread of the recording went on after P, up to `last`. Now the events are Q; `run` has the number of added events,
-- and the event that cannot be added.
abbrev pub RunsOn : Recording → List ℕ → List ℕ → ℕ → ℕ → ℕ × Option ℕ → Type 0
RunsOn r P Q t last run = run_of (length r.events) r.events P t last ≡ (run.0, item_of r.events Q run.1)
