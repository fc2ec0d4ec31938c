-- The answers to questions, for a log. All texts are this project's own. `T` is the trace, and `L` is the log. The
-- first number of an answer is the length of the log.
use Rattle.std.specs.Prelude.{◌≡◌, ◌/◌, ℕ, Bool, false, List, [], ◌++◌, drop, find, flat_map, length, option_map, slice_get, take, unwrap_or, Option, Some, None, codes, decimal, nat_lt, if◌then◌else◌}
use Rattle.std.specs.List.{range_with_len}
use Rattle.rapid_text.specs.Recording.{Recording}
use Rattle.rapid_text.specs.declared.event.Event.{Event}
use Rattle.schedule.specs.declared.refusal.Disabled.TheVariants.{NoSuchEvent, NotNext}
use Rattle.schedule.specs.Refusals.{next_of}
use Rattle.schedule.specs.Scheduled.{Scheduled}
use Rattle.moves.specs.Rows.{Rows, row_of}
use Rattle.moves.specs.declared.refusal.MoveRefusal.TheVariants.{NoSuchSchedule, Disabled as DisabledBy}
use Rattle.moves.specs.declared.row.Row.{Row}
use Rattle.inverse_log.specs.declared.entry.Entry.{Entry}
use Rattle.inverse_log.specs.declared.refusal.Refusal.TheVariants.{Move, NoSuchEntry}
use Rattle.inverse_log.specs.Log.{Benched, client_of, rows_of, undoes}
use Rattle.report.specs.Log.{entry_line, line_at}
use Rattle.report.specs.Pieces.{spaced}
use Rattle.report.specs.Refusals.{refusal_text}
use Rattle.script_language.specs.declared.question.Question.{Question}
use Rattle.script_language.specs.declared.question.Question.TheVariants.{Next, Witness, Run, Part, Rows as AllRows, Entry as EntryAt}
use Rattle.kept_session.specs.QuestionItems.{item_of, run_of, thread_items}
use Rattle.kept_session.specs.QuestionWitnesses.{IsWitnessLine}

-- a look at the schedule in a row, or the refusal if there is no such row
abbrev pub looked_at : Recording → Option Row → (List ℕ → List ℕ) → List ℕ
looked_at T None look = refusal_text T (Move NoSuchSchedule)
looked_at T (Some r) look = look r.schedule.events

-- a look at the schedule with this name after the log L
abbrev pub looked_up : Recording → List Entry → List ℕ → (List ℕ → List ℕ) → List ℕ
looked_up T L x look = looked_at T (row_of (rows_of T L) x) look

-- what each thread does next after P
abbrev pub next_line : Recording → ℕ → List ℕ → List ℕ
next_line T n P =
    codes "next " ++ decimal n ++ codes " " ++ decimal (length P) ++ thread_items T.events P (length T.threads) ++ codes "\n"

-- at most `count` events of P, from position `from` on
abbrev pub part_line : ℕ → ℕ → ℕ → List ℕ → List ℕ
part_line n from count P =
    codes "part " ++ decimal n ++ codes " " ++ decimal (length P) ++ codes " " ++ decimal from ++ spaced (take count (drop from P)) ++ codes "\n"

-- the client of the log entry with this number; 0, which is no client, if there is no such entry
abbrev pub client_at : List Entry → ℕ → ℕ
client_at L k = unwrap_or (option_map client_of (slice_get L k)) 0

-- a schedule's name, its length, the entry that made it, and the client of that entry
abbrev pub row_item : List Entry → List ℕ × Row → List ℕ
row_item L (name, r) =
    codes " " ++ name ++ codes ":" ++ decimal (length r.schedule.events) ++ codes ":" ++ decimal (r.birth / 4294967296) ++ codes ":"
    ++ decimal (client_at L (r.birth / 4294967296))

abbrev pub row_item_at : List Entry → Option (List ℕ × Row) → List ℕ
row_item_at L None = []
row_item_at L (Some row) = row_item L row

-- the items of the first n schedules
abbrev pub row_items : List Entry → Rows → ℕ → List ℕ
row_items L W n = flat_map (λ at. row_item_at L (slice_get W at)) (range_with_len 0 n)

-- all schedules, in the order in which they were made
abbrev pub rows_line : List Entry → Rows → List ℕ
rows_line L W = codes "rows " ++ decimal (length L) ++ row_items L W (length W) ++ codes "\n"

-- whether entry n is an undo of entry k
abbrev pub undoes_in : ℕ → Option Entry → Bool
undoes_in k None = false
undoes_in k (Some e) = undoes k e

abbrev pub undoes_at : List Entry → ℕ → ℕ → Bool
undoes_at L k n = undoes_in k (slice_get L n)

-- the number of the first undo that took entry k back, if there is one
abbrev pub undo_of : List Entry → ℕ → Option ℕ
undo_of L k = find (undoes_at L k) (range_with_len 0 (length L))

abbrev pub state_words : Option ℕ → List ℕ
state_words None = codes " live "
state_words (Some undo) = codes " undone " ++ decimal undo ++ codes " "

-- entry k, whether an undo took it back, and its line of the log
abbrev pub entry_text : Recording → List Entry → ℕ → Option Entry → List ℕ
entry_text T L k None = refusal_text T NoSuchEntry
entry_text T L k (Some e) = codes "entry " ++ decimal (length L) ++ codes " " ++ decimal k ++ state_words (undo_of L k) ++ entry_line k e

-- the same for an entry that the log has
abbrev pub there_text : List Entry → ℕ → List ℕ
there_text L k = codes "entry " ++ decimal (length L) ++ codes " " ++ decimal k ++ state_words (undo_of L k) ++ line_at L k

-- how far the thread of an event can go on after P, up to that event
abbrev pub run_words : ℕ → ℕ × List ℕ → List ℕ
run_words n run = codes "run " ++ decimal n ++ codes " " ++ decimal run.0 ++ run.1 ++ codes "\n"

-- the same, given the thread's next event; an event before that is in P already, so the answer is that it is not next
abbrev pub run_next : Recording → ℕ → List ℕ → ℕ → ℕ → Option ℕ → List ℕ
run_next T n P t e None = refusal_text T (Move (DisabledBy NotNext))
run_next T n P t e (Some next) =
    if nat_lt e next then refusal_text T (Move (DisabledBy NotNext)) else run_words n (run_of (length T.events) T.events P t e)

abbrev pub run_line : Recording → ℕ → ℕ → Option Event → List ℕ → List ℕ
run_line T n e None P = refusal_text T (Move (DisabledBy NoSuchEvent))
run_line T n e (Some v) P = run_next T n P v.thread e (next_of T.events P v.thread)

-- The answer to a question after the log L. The definitions allow only one answer to each question, except for
-- `witness`.
abbrev pub IsAnswer : Recording → List Entry → Question → List ℕ → Type 0
IsAnswer T L (Next x) text = text ≡ looked_at T (row_of (rows_of T L) x) (next_line T (length L))
IsAnswer T L (Witness a b) text = IsWitnessLine T a b text
IsAnswer T L (Run x e) text = text ≡ looked_at T (row_of (rows_of T L) x) (run_line T (length L) e (slice_get T.events e))
IsAnswer T L (Part x from count) text = text ≡ looked_at T (row_of (rows_of T L) x) (part_line (length L) from count)
IsAnswer T L AllRows text = text ≡ rows_line L (rows_of T L)
IsAnswer T L (EntryAt k) text = text ≡ entry_text T L k (slice_get L k)

-- the schedule with this name on a bench
abbrev pub schedule_in : Benched → List ℕ → Option Scheduled
schedule_in b x = option_map (λ (r : Row). r.schedule) (row_of (rows_of b.trace b.log) x)

-- the answers to questions on a bench: `next`, `run`, `part`, `rows` and `entry`
abbrev pub next_answer : Benched → List ℕ → List ℕ
next_answer b x = looked_up b.trace b.log x (next_line b.trace (length b.log))

abbrev pub run_answer : Benched → List ℕ → ℕ → List ℕ
run_answer b x e = looked_up b.trace b.log x (run_line b.trace (length b.log) e (slice_get b.trace.events e))

abbrev pub part_answer : Benched → List ℕ → ℕ → ℕ → List ℕ
part_answer b x from count = looked_up b.trace b.log x (part_line (length b.log) from count)

abbrev pub rows_answer : Benched → List ℕ
rows_answer b = rows_line b.log (rows_of b.trace b.log)

abbrev pub entry_answer : Benched → ℕ → List ℕ
entry_answer b k = entry_text b.trace b.log k (slice_get b.log k)

-- how far the thread t of a recording can go on after P, up to the event e, given the events that were added
abbrev pub stop_line : Recording → ℕ → List ℕ → ℕ × Option ℕ → List ℕ
stop_line r n P run = run_words n (run.0, item_of r.events P run.1)

-- the same, given the thread alone; if its next event is not after e; of the event e
abbrev pub run_text : Recording → ℕ → List ℕ → ℕ → ℕ → List ℕ
run_text r n P t e = run_words n (run_of (length r.events) r.events P t e)

abbrev pub next_run : Recording → ℕ → List ℕ → ℕ → ℕ → List ℕ
next_run r n P t e = run_next r n P t e (next_of r.events P t)

abbrev pub run_to : Recording → ℕ → ℕ → List ℕ → List ℕ
run_to r n e P = run_line r n e (slice_get r.events e) P
