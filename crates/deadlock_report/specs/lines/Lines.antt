-- Lines as compilers write them, `FILE:LINE: KIND: TEXT`, that list the verdicts on deadlocks. `r` is the trace's
-- recording, `f` the folder of the code. All notions here are this project's own.
use Rattle.std.specs.Prelude.{ℕ, cond, List, [], ◌∷◌, ◌++◌, flat_map, slice_get, codes, decimal, Option, Some, None}
use Rattle.std.specs.List.{concat}
use Rattle.rapid_text.specs.Recording.{Recording}
use Rattle.rapid_text.specs.declared.event.Event.{Event}
use Rattle.explain_report.specs.Causes.{lock_taken}
use Rattle.explain_report.specs.places.Located.{location_at}
use Rattle.triage_report.specs.declared.folder.Folder.{Folder}
use Rattle.triage_report.specs.lines.Accesses.{thread_at, variable_at}
use Rattle.triage_report.specs.lines.Lines.{about_line, location_lines, lock_lines, shown_at}
use Rattle.triage_report.specs.lines.Reasons.{apart_words, race_words, undecided_words}
use Rattle.deadlock_triage.specs.declared.outcomes.Outcome.{Outcome}
use Rattle.deadlock_triage.specs.declared.outcomes.Outcome.TheVariants.{Deadlock, Undecided, Apart}
use Rattle.deadlock_triage.specs.declared.outcomes.Verdict.{Verdict}
use Rattle.deadlock_report.specs.Counts.{is_of}
use Rattle.deadlock_report.specs.Holds.{since_at}
use Rattle.deadlock_report.specs.declared.kinds.Kind.{Kind}
use Rattle.deadlock_report.specs.declared.kinds.Kind.TheVariants.{Shown, Open, Never}
use Rattle.deadlock_report.specs.Holds.{other_locks}

-- the kind of a line, and what it says
abbrev pub outcome_words : Outcome → List ℕ
outcome_words (Deadlock how events threads) = codes "warning: deadlock"
outcome_words (Undecided tried) = codes "warning: undecided deadlock"
outcome_words Apart = codes "note: apart"

-- the name of the rule, at the end of a first line
abbrev pub rule_words : Outcome → List ℕ
rule_words (Deadlock how events threads) = codes "deadlock"
rule_words (Undecided tried) = codes "undecided-deadlock"
rule_words Apart = codes "apart-deadlock"

-- the thread of request e holds the lock that request d waits for, and waits itself
abbrev pub waits_words : Recording → ℕ → ℕ → List ℕ
waits_words r e d =
    concat (thread_at r e ∷ codes " holds " ∷ variable_at r d ∷ codes " and waits for " ∷ variable_at r e ∷ [])

-- what comes before and after these words, in the first line of a verdict whose later request is at this place
abbrev pub before_waits : List ℕ → Verdict → List ℕ
before_waits place v = concat (place ∷ codes ": " ∷ outcome_words v.outcome ∷ codes ": " ∷ [])

abbrev pub after_waits : Verdict → List ℕ
after_waits v = concat (codes " [" ∷ rule_words v.outcome ∷ codes "]\n" ∷ [])

-- the first line of a verdict
abbrev pub head_line : Recording → List ℕ → Verdict → List ℕ
head_line r place v =
    before_waits place v ++ waits_words r v.second v.first ++ codes ", " ++ waits_words r v.first v.second ++ after_waits v

-- the line of a request at this place
abbrev pub wait_line : Recording → List ℕ → ℕ → List ℕ
wait_line r place e =
    concat (place ∷ codes ": note: event " ∷ decimal e ∷ codes ": " ∷ thread_at r e ∷ codes " waits for " ∷ variable_at r e ∷ codes "\n" ∷ [])

-- the acquire since which a lock is held, with the calls that led to it
abbrev pub since_lines : Recording → Folder → Option ℕ → List ℕ
since_lines r f None = []
since_lines r f (Some p) = about_line r (shown_at r f p) p ++ location_lines f (shown_at r f p) (location_at r p)

-- the same of the lock; empty if event e's thread does not hold it before e
abbrev pub hold_lines : Recording → Folder → ℕ → Option ℕ → List ℕ
hold_lines r f e None = []
hold_lines r f e (Some l) = since_lines r f (since_at r e l)

-- request e at this place, the other locks that its thread holds, the calls that led to it, and since when its thread
-- holds the lock that is waited for
abbrev pub told_lines : Recording → Folder → List ℕ → ℕ → Option ℕ → List ℕ
told_lines r f place e wanted =
    wait_line r place e ++ lock_lines r place (other_locks r e wanted) ++ location_lines f place (location_at r e)
    ++ hold_lines r f e wanted

abbrev pub request_by : Recording → Folder → List ℕ → ℕ → ℕ → Option Event → List ℕ
request_by r f place e d None = []
request_by r f place e d (Some v) = told_lines r f place e (lock_taken r.events d)

-- the lines of request e; nothing if there is no such event
abbrev pub request_lines : Recording → Folder → List ℕ → ℕ → ℕ → List ℕ
request_lines r f place e d = request_by r f place e d (slice_get r.events e)

-- the reason for the verdict
abbrev pub reason_words : Outcome → List ℕ
reason_words (Deadlock how events threads) = race_words events threads
reason_words (Undecided tried) = undecided_words tried
reason_words Apart = apart_words

-- how to see it
abbrev pub how_words : Verdict → List ℕ
how_words v = concat (codes ": racebench explain TRACE " ∷ decimal v.first ∷ codes " " ∷ decimal v.second ∷ codes "\n" ∷ [])

-- the last line of a verdict whose later request is at this place
abbrev pub reason_line : List ℕ → Verdict → List ℕ
reason_line place v = concat (place ∷ codes ": note: " ∷ []) ++ reason_words v.outcome ++ how_words v

-- the lines of a verdict whose requests are at these places
abbrev pub lines_at : Recording → Folder → List ℕ → List ℕ → Verdict → List ℕ
lines_at r f first second v =
    head_line r second v ++ request_lines r f second v.second v.first ++ request_lines r f first v.first v.second
    ++ reason_line second v

-- the lines of a verdict, its later request first
abbrev pub verdict_lines : Recording → Folder → Verdict → List ℕ
verdict_lines r f v = lines_at r f (shown_at r f v.first) (shown_at r f v.second) v

-- the same if it is of this kind
abbrev pub lines_if : Recording → Folder → Kind → Verdict → List ℕ
lines_if r f k v = cond (is_of k v) (verdict_lines r f v) []

-- the lines of the verdicts of this kind
abbrev pub kind_lines : Recording → Folder → Kind → List Verdict → List ℕ
kind_lines r f k vs = flat_map (lines_if r f k) vs

-- the lines of all verdicts: deadlocks, then undecided patterns, then patterns that are apart
abbrev pub all_lines : Recording → Folder → List Verdict → List ℕ
all_lines r f vs = kind_lines r f Shown vs ++ kind_lines r f Open vs ++ kind_lines r f Never vs
