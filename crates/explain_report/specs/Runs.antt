-- The runs of a schedule: the longest parts of its list that belong to one thread. `T` is the events of a trace, `es`
-- a list of events. All notions here are this project's own.
use Rattle.std.specs.Prelude.{ℕ, ◌+◌, min, nat_eq, cond, List, [], ◌∷◌, ◌++◌, length, Option, Some, None}
use Rattle.rapid_text.specs.Recording.{Recording}
use Rattle.rapid_text.specs.declared.event.Event.{Event}
use Rattle.event_index.specs.Events.{thread_at}
use Rattle.explain_report.specs.declared.runs.Run.{Run}

-- the index after this one, in 32 bits; no list of a trace reaches their limit
abbrev pub place_after : ℕ → ℕ
place_after n = min (n + 1) 4294967295

abbrev pub thread_or_first : Option ℕ → ℕ
thread_or_first None = 0
thread_or_first (Some t) = t

-- the thread of event e; thread 0 if there is no such event
abbrev pub thread_of : List Event → ℕ → ℕ
thread_of T e = thread_or_first (thread_at T e)

-- a run of thread t that has only the event at this index
abbrev pub run_from : ℕ → ℕ → Run
run_from t start = record { thread = t; start = start; end = place_after start }

-- the run with the next event too
abbrev pub longer : Run → Run
longer run = record { thread = run.thread; start = run.start; end = place_after run.end }

-- an event of thread t follows: the run of that event
abbrev pub next_run : Option Run → ℕ → Run
next_run None t = run_from t 0
next_run (Some run) t = cond (nat_eq run.thread t) (longer run) (run_from t run.end)

-- the run that ends before that event
abbrev pub ended_before : Option Run → ℕ → List Run
ended_before None t = []
ended_before (Some run) t = cond (nat_eq run.thread t) [] (run ∷ [])

-- the run that ends with the list
abbrev pub ended : Option Run → List Run
ended None = []
ended (Some run) = run ∷ []

-- the runs of a list that goes on with these events after this run, which may go on too
unfoldable pub runs_after : List Event → Option Run → List ℕ → List Run
runs_after T run [] = ended run
runs_after T run (e ∷ es) = ended_before run (thread_of T e) ++ runs_after T (Some (next_run run (thread_of T e))) es

-- the runs of the list, in its order
abbrev pub runs_of : List Event → List ℕ → List Run
runs_of T es = runs_after T None es

-- how many there are
abbrev pub run_total : Recording → List ℕ → ℕ
run_total r es = length (runs_of r.events es)
