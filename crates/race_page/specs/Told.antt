-- What a row says of its verdict. `r` is the recording of the trace. All notions here are this project's own.
use Rattle.std.specs.Prelude.{◌≡◌, ℕ, nat_lt, cond, List, [], ◌∷◌, ◌++◌, length, flat_map, slice_get, Option, Some, None, codes, decimal}
use Rattle.std.specs.List.{concat}
use Rattle.markup.specs.Escaped.{escaped}
use Rattle.rapid_text.specs.Recording.{Recording}
use Rattle.explain_report.specs.declared.verdict.How.{How}
use Rattle.explain_report.specs.declared.verdict.How.TheVariants.{Candidate, Beyond, Turned}
use Rattle.race_triage.specs.Pieces.{event_words_at}
use Rattle.race_triage.specs.Texts.{held_locks, pairs_covered}
use Rattle.race_triage.specs.declared.verdicts.Outcome.{Outcome}
use Rattle.race_triage.specs.declared.verdicts.Outcome.TheVariants.{Race, Undecided, Apart}
use Rattle.race_triage.specs.declared.verdicts.Verdict.{Verdict}
use Rattle.race_page.specs.Items.{count_text, element_text}
use Rattle.race_page.specs.Own.{begin_text, end_text}
use Rattle.race_page.specs.Reasons.{IsReason}
use Rattle.race_page.specs.declared.own.Tag.TheVariants.{RowHeading, PartHeading, Isolated, Table, TableHead, TableBody, Line, ColumnHead, LineHead, Cell, Summary, Facts, Code}

-- how the schedule of a race was found
abbrev pub how_text : How → List ℕ
how_text Candidate = codes "candidate, "
how_text Beyond = codes "beyond, "
how_text Turned = codes "turned, "

-- the two events
abbrev pub events_text : ℕ → ℕ → List ℕ
events_text a b =
    concat
    (end_text RowHeading ∷ begin_text Facts ∷ escaped (codes "Events ") ∷ decimal a ∷ escaped (codes " and ") ∷ decimal b ∷ escaped (codes ": ") ∷ [])

-- a race: how it was found, the number of pairs and of their variables, and the size of the schedule
abbrev pub race_text : How → ℕ → ℕ → Verdict → List ℕ
race_text how events threads v =
    concat
    (escaped (how_text how) ∷ count_text (pairs_covered v) (codes "pair") ∷ escaped (codes " of ") ∷ count_text v.variables (codes "variable")
    ∷ escaped (codes ", a schedule of ") ∷ count_text events (codes "event") ∷ escaped (codes " of ") ∷ count_text threads (codes "thread") ∷ [])

-- undecided: the number of pairs and of their variables, and how many pairs were tried
abbrev pub undecided_words : ℕ → ℕ → ℕ → List ℕ
undecided_words pairs variables tried =
    concat
    (escaped (codes "undecided, ") ∷ count_text pairs (codes "pair") ∷ escaped (codes " of ") ∷ count_text variables (codes "variable")
    ∷ escaped (codes ", ") ∷ decimal tried ∷ escaped (codes " tried") ∷ [])

abbrev pub undecided_text : ℕ → Verdict → List ℕ
undecided_text tried v = undecided_words (pairs_covered v) v.variables tried

-- apart: the number of pairs
abbrev pub apart_text : Verdict → List ℕ
apart_text v = concat (escaped (codes "apart, ") ∷ count_text (pairs_covered v) (codes "pair") ∷ [])

abbrev pub outcome_by : Outcome → Verdict → List ℕ
outcome_by (Race how events threads) v = race_text how events threads v
outcome_by (Undecided tried) v = undecided_text tried v
outcome_by Apart v = apart_text v

abbrev pub outcome_text : Verdict → List ℕ
outcome_text v = outcome_by v.outcome v

-- the end of the title, the two events, and the outcome with its counts
abbrev pub facts_text : Verdict → List ℕ
facts_text v = events_text v.first v.second ++ outcome_text v ++ end_text Facts

-- the name of a lock
abbrev pub name_by : Option (List ℕ) → List ℕ
name_by None = []
name_by (Some name) = element_text Isolated name

abbrev pub lock_text : Recording → ℕ → List ℕ
lock_text r l = name_by (slice_get r.locks l)

-- a comma and the name
abbrev pub next_lock : Recording → ℕ → List ℕ
next_lock r l = escaped (codes ", ") ++ lock_text r l

-- the same for each lock of the list
abbrev pub more_locks : Recording → List ℕ → List ℕ
more_locks r ls = flat_map (next_lock r) ls

-- the names of the locks, or `none`
abbrev pub locks_text : Recording → List ℕ → List ℕ
locks_text r [] = escaped (codes "none")
locks_text r (l ∷ ls) = lock_text r l ++ more_locks r ls

-- the cells of an event before that of its locks: its number, and these words
abbrev pub cells_text : ℕ → List ℕ → List ℕ
cells_text e words =
    concat
    (begin_text Line ∷ begin_text LineHead ∷ decimal e ∷ end_text LineHead ∷ begin_text Cell ∷ element_text Code words ∷ end_text Cell ∷ begin_text Cell ∷ [])

-- the same with the event's line of the trace
abbrev pub line_text : Recording → ℕ → List ℕ
line_text r e = cells_text e (event_words_at r e)

abbrev pub line_end : List ℕ
line_end = concat (end_text Cell ∷ end_text Line ∷ [])

-- the table line of event e, with the locks that its thread holds before it; empty if there is no such event
abbrev pub access_text : Recording → ℕ → List ℕ
access_text r e = cond (nat_lt e (length r.events)) (line_text r e ++ locks_text r (held_locks r e) ++ line_end) []

abbrev pub table_begin : List ℕ
table_begin =
    concat
    (element_text PartHeading (codes "The two accesses") ∷ begin_text Table ∷ begin_text TableHead ∷ begin_text Line ∷ element_text ColumnHead (codes "Event")
    ∷ element_text ColumnHead (codes "Line of the trace") ∷ element_text ColumnHead (codes "Locks held before it") ∷ end_text Line ∷ end_text TableHead
    ∷ begin_text TableBody ∷ [])

abbrev pub table_end : List ℕ
table_end = concat (end_text TableBody ∷ end_text Table ∷ [])

-- the table of both accesses
abbrev pub accesses_text : Recording → ℕ → ℕ → List ℕ
accesses_text r a b = table_begin ++ access_text r a ++ access_text r b ++ table_end

-- the beginning of a row, up to the reason: this title, and the facts
abbrev pub opening_text : List ℕ → Verdict → List ℕ
opening_text title v = begin_text RowHeading ++ title ++ facts_text v

-- What a reader sees of a closed row: a title, the events, the outcome with its counts, and the reason of a row that is no race.
-- The title is presentation.
pub record IsSummary (r : Recording) (v : Verdict) (text : List ℕ) : Type 0 where
  pub title : List ℕ
  pub reason : List ℕ
  pub reasoned : IsReason r v reason
  pub printed : text ≡ opening_text title v ++ reason ++ end_text Summary

-- the text says what was found: the summary, and the table of the two accesses
pub record IsTold (r : Recording) (v : Verdict) (text : List ℕ) : Type 0 where
  pub summary : List ℕ
  pub summed : IsSummary r v summary
  pub printed : text ≡ summary ++ accesses_text r v.first v.second
