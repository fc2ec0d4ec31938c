-- The printed runs of a schedule. `r` is a recording, `es` the events of the schedule, `ws` for each event of `es` an
-- event that waits for it. All notions here are this project's own.
use Rattle.std.specs.Prelude.{◌≡◌, ℕ, ◌+◌, ◌-◌, min, nat_le, nat_lt, ◌==◌, Bool, ◌||◌, cond, List, [], ◌∷◌, ◌++◌, length, take, drop, replicate, flat_map, slice_get, slice_index_or, Option, Some, None, codes, decimal}
use Rattle.std.specs.List.{slice_set}
use Rattle.rapid_text.specs.Canonical.{name_at}
use Rattle.rapid_text.specs.Recording.{Recording}
use Rattle.rapid_text.specs.declared.event.Event.{Event}
use Rattle.event_index.specs.Events.{thread_at}
use Rattle.explain_report.specs.Chains.{line_at}
use Rattle.explain_report.specs.Runs.{runs_of}
use Rattle.explain_report.specs.Verdicts.{count_text}
use Rattle.explain_report.specs.Waiting.{AreWaiters, words_between}
use Rattle.explain_report.specs.declared.folded.Tally.{Tally}
use Rattle.explain_report.specs.declared.runs.Run.{Run}

-- the number of events of the run
abbrev pub event_total : Run → ℕ
event_total run = run.end - run.start

-- the line of run n: its number, its thread, and how many events it has
abbrev pub run_line : Recording → ℕ → Run → List ℕ
run_line r n run =
    codes "run " ++ decimal n ++ codes " of " ++ name_at r.threads run.thread ++ codes ", " ++ count_text (event_total run) (codes "event") ++ codes "\n"

abbrev pub place_by : Recording → Option ℕ → List ℕ
place_by r None = []
place_by r (Some e) = codes "  " ++ line_at r e

-- the line of the event at this index of the list
abbrev pub place_line : Recording → List ℕ → ℕ → List ℕ
place_line r es k = place_by r (slice_get es k)

-- between the first event of n and the last
abbrev pub gap_line : ℕ → List ℕ
gap_line n = cond (nat_lt 2 n) (codes "  ..\n") []

-- the last event of n, unless it is the first
abbrev pub last_line : Recording → List ℕ → ℕ → ℕ → List ℕ
last_line r es k n = cond (nat_lt 1 n) (place_line r es k) []

-- the first event of the run, and the last
abbrev pub run_events : Recording → List ℕ → Run → List ℕ
run_events r es run = place_line r es run.start ++ gap_line (event_total run) ++ last_line r es (run.end - 1) (event_total run)

abbrev pub waiter_by : Recording → Option ℕ → Option ℕ → List ℕ
waiter_by r (Some e) (Some w) = codes "  " ++ words_between r.events e w ++ codes " " ++ line_at r w
waiter_by r _ _ = []

-- the event that waits for the one at this index, after the reason
abbrev pub waiter_line : Recording → List ℕ → List (Option ℕ) → ℕ → List ℕ
waiter_line r es ws k = waiter_by r (slice_get es k) (slice_index_or ws k None)

-- run n: its line, its first event and its last, and the event that waits for the last
abbrev pub run_text : Recording → List ℕ → List (Option ℕ) → ℕ → Run → List ℕ
run_text r es ws n run = run_line r n run ++ run_events r es run ++ waiter_line r es ws (run.end - 1)

-- these runs after n others
unfoldable pub each_run_text : Recording → List ℕ → List (Option ℕ) → ℕ → List Run → List ℕ
each_run_text r es ws n [] = []
each_run_text r es ws n (run ∷ runs) = run_text r es ws (n + 1) run ++ each_run_text r es ws (n + 1) runs

-- no event of the thread
abbrev pub no_event : Tally
no_event = record { count = 0; last = 0 }

-- with event e, which is now the last
abbrev pub counted : Tally → ℕ → Tally
counted tally e = record { count = min (tally.count + 1) 4294967295; last = e }

abbrev pub tallied_by : Option ℕ → List Tally → ℕ → List Tally
tallied_by None tallies e = tallies
tallied_by (Some t) tallies e = slice_set tallies t (counted (slice_index_or tallies t no_event) e)

-- the tallies with event e, which its thread's tally counts
abbrev pub tallied : List Event → List Tally → ℕ → List Tally
tallied T tallies e = tallied_by (thread_at T e) tallies e

-- the tallies with these events, one after the other
unfoldable pub tallies_after : List Event → List Tally → List ℕ → List Tally
tallies_after T tallies [] = tallies
tallies_after T tallies (e ∷ es) = tallies_after T (tallied T tallies e) es

-- for each thread, how many events of the list it has, and its last
abbrev pub tallies_of : Recording → List ℕ → List Tally
tallies_of r es = tallies_after r.events (replicate (length r.threads) no_event) es

-- a thread's number of events, and its last
abbrev pub tally_line : Recording → Tally → List ℕ
tally_line r tally =
    cond (tally.count == 0) [] (codes "  " ++ count_text tally.count (codes "event") ++ codes " to " ++ line_at r tally.last)

-- the lines of the threads
abbrev pub tally_lines : Recording → List Tally → List ℕ
tally_lines r tallies = flat_map (tally_line r) tallies

abbrev pub end_by : Option Run → ℕ
end_by None = 0
end_by (Some run) = run.end

-- the index after the first n runs, for n above 0
abbrev pub end_of : List Run → ℕ → ℕ
end_of runs n = end_by (slice_get runs (n - 1))

-- the line of the first n runs as one block, which have this many events
abbrev pub block_line : ℕ → ℕ → List ℕ
block_line n events = codes "runs 1 to " ++ decimal n ++ codes ", " ++ count_text events (codes "event") ++ codes "\n"

-- the first n runs as one block: for each thread its number of events in them, and its last
abbrev pub block_text : Recording → List ℕ → List Run → ℕ → List ℕ
block_text r es runs n = cond (n == 0) [] (block_line n (end_of runs n) ++ tally_lines r (tallies_of r (take (end_of runs n) es)))

-- how many of n runs are one block: none if all are wanted, or at most eleven; else all but the last ten
abbrev pub block_size : Bool → ℕ → ℕ
block_size all n = cond (all || nat_le n 11) 0 (n - 10)

-- the runs: the first n as one block, and each of the others
abbrev pub shown_text : Recording → List ℕ → List (Option ℕ) → List Run → ℕ → List ℕ
shown_text r es ws runs n = block_text r es runs n ++ each_run_text r es ws n (drop n runs)

-- the runs of the schedule: all, or the first ones of many as one block
abbrev pub runs_text : Recording → List ℕ → List (Option ℕ) → Bool → List ℕ
runs_text r es ws all = shown_text r es ws (runs_of r.events es) (block_size all (length (runs_of r.events es)))

-- The text is that of the runs. With the last event of a run it may name one that waits for it.
abbrev pub AreRunsTold : Recording → List ℕ → Bool → List ℕ → Type 0
AreRunsTold r es all text = (ws : List (Option ℕ)) × AreWaiters r.events es ws × (text ≡ runs_text r es ws all)
