-- Lines as compilers write them, `FILE:LINE: KIND: TEXT`, that list the verdicts of a trace. `r` is the trace's recording, `f` the folder of
-- the code. All notions here are this project's own.
use Rattle.std.specs.Prelude.{◌≡◌, ℕ, ◌==◌, cond, List, [], ◌∷◌, ◌++◌, length, flat_map, slice_get, codes, decimal, Option, Some, None}
use Rattle.std.specs.List.{concat}
use Rattle.rapid_text.specs.Canonical.{name_at}
use Rattle.rapid_text.specs.Recording.{Recording}
use Rattle.rapid_text.specs.declared.event.Event.{Event}
use Rattle.triage_report.specs.Folder.{place_in}
use Rattle.triage_report.specs.declared.folder.Folder.{Folder}
use Rattle.triage_report.specs.lines.Accesses.{spot_at, thread_at, variable_at, verb_at}
use Rattle.triage_report.specs.lines.Reasons.{apart_words, race_words, undecided_words}
use Rattle.race_triage.specs.Texts.{held_locks}
use Rattle.race_triage.specs.declared.chosen.Chosen.{Chosen}
use Rattle.race_triage.specs.declared.verdicts.Outcome.{Outcome}
use Rattle.race_triage.specs.declared.verdicts.Outcome.TheVariants.{Race, Undecided, Apart}
use Rattle.race_triage.specs.declared.verdicts.Verdict.{Verdict}
use Rattle.explain_report.specs.places.Located.{location_at}
use Rattle.explain_report.specs.places.Places.{behind_arrow, call_function, call_place, calls_in}
use Rattle.explain_report.specs.declared.places.arrows.TheConstants.{MAX_CALLS}

-- the kind of a line, and what it says
abbrev pub outcome_words : Outcome → List ℕ
outcome_words (Race how events threads) = codes "warning: data race"
outcome_words (Undecided tried) = codes "warning: undecided pair"
outcome_words Apart = codes "note: apart"

-- the name of the rule, at the end of a first line
abbrev pub rule_words : Outcome → List ℕ
rule_words (Race how events threads) = codes "data-race"
rule_words (Undecided tried) = codes "undecided-pair"
rule_words Apart = codes "apart"

-- the place of event e, with the path of its file in the folder
abbrev pub shown_at : Recording → Folder → ℕ → List ℕ
shown_at r f e = place_in f (spot_at r e)

-- what the first line of a pair says of its later access b, which is at this place
abbrev pub later_words : Recording → List ℕ → Verdict → List ℕ
later_words r place v =
    concat (place ∷ codes ": " ∷ outcome_words v.outcome ∷ codes " on " ∷ variable_at r v.second ∷ codes ": " ∷ thread_at r v.second ∷ codes " "
    ∷ verb_at r v.second ∷ [])

-- and of its earlier access a
abbrev pub earlier_words : Recording → List ℕ → Verdict → List ℕ
earlier_words r place v =
    concat (codes ", " ∷ thread_at r v.first ∷ codes " " ∷ verb_at r v.first ∷ codes " at " ∷ place ∷ codes " [" ∷ rule_words v.outcome ∷ codes "]\n" ∷ [])

-- the first line of a pair whose accesses are at these places, the earlier first
abbrev pub head_line : Recording → List ℕ → List ℕ → Verdict → List ℕ
head_line r first second v = later_words r second v ++ earlier_words r first v

-- the line of an access at this place
abbrev pub about_line : Recording → List ℕ → ℕ → List ℕ
about_line r place e =
    concat (place ∷ codes ": note: event " ∷ decimal e ∷ codes ": " ∷ thread_at r e ∷ codes " " ∷ verb_at r e ∷ codes " " ∷ variable_at r e ∷ codes "\n" ∷ [])

-- the line of a lock that the thread holds there
abbrev pub lock_line : Recording → List ℕ → ℕ → List ℕ
lock_line r place l = concat (place ∷ codes ": note: holds " ∷ name_at r.locks l ∷ codes "\n" ∷ [])

abbrev pub lock_lines : Recording → List ℕ → List ℕ → List ℕ
lock_lines r place ls = flat_map (lock_line r place) ls

-- the lines of the locks that the thread holds before event e
abbrev pub held_lines : Recording → List ℕ → ℕ → List ℕ
held_lines r place e = lock_lines r place (held_locks r e)

-- the place of a call, or else that of the access
abbrev pub place_or : List ℕ → List ℕ → List ℕ
place_or place own = cond (length own == 0) place own

-- the line of a call of a function, from a place
abbrev pub said_of : List ℕ → List ℕ → List ℕ
said_of place function =
    cond (length function == 0) (concat (place ∷ codes ": note: called from here\n" ∷ [])) (concat (place ∷ codes ": note: in " ∷ function ∷ codes "\n" ∷ []))

-- the line of a call
abbrev pub call_line : Folder → List ℕ → List ℕ → List ℕ
call_line f place call = said_of (place_or place (place_in f (call_place call))) (call_function call)

abbrev pub call_lines : Folder → List ℕ → List (List ℕ) → List ℕ
call_lines f place calls = flat_map (call_line f place) calls

-- the lines of the calls that led to a location
abbrev pub location_lines : Folder → List ℕ → List ℕ → List ℕ
location_lines f place location = call_lines f place (calls_in MAX_CALLS (behind_arrow location))

abbrev pub access_by : Recording → Folder → List ℕ → ℕ → Option Event → List ℕ
access_by r f place e None = []
access_by r f place e (Some v) =
    about_line r place e ++ held_lines r place e ++ location_lines f place (location_at r e)

-- the lines of event e at this place: the access, the locks that are held, and the calls from the inside to the outside
abbrev pub access_lines : Recording → Folder → List ℕ → ℕ → List ℕ
access_lines r f place e = access_by r f place e (slice_get r.events e)

-- the reason for the verdict
abbrev pub reason_words : Outcome → List ℕ
reason_words (Race how events threads) = race_words events threads
reason_words (Undecided tried) = undecided_words tried
reason_words Apart = apart_words

-- how to see it
abbrev pub how_words : Verdict → List ℕ
how_words v = concat (codes ": racebench explain TRACE " ∷ decimal v.first ∷ codes " " ∷ decimal v.second ∷ codes "\n" ∷ [])

-- the last line of a pair whose later access is at this place
abbrev pub reason_line : List ℕ → Verdict → List ℕ
reason_line place v = concat (place ∷ codes ": note: " ∷ []) ++ reason_words v.outcome ++ how_words v

-- the lines of a pair whose accesses are at these places
abbrev pub lines_at : Recording → Folder → List ℕ → List ℕ → Verdict → List ℕ
lines_at r f first second v =
    head_line r first second v ++ access_lines r f second v.second ++ access_lines r f first v.first ++ reason_line second v

-- the lines of a pair, its later access first
abbrev pub verdict_lines : Recording → Folder → Verdict → List ℕ
verdict_lines r f v = lines_at r f (shown_at r f v.first) (shown_at r f v.second) v

-- the lines of all pairs
abbrev pub all_lines : Recording → Folder → List Verdict → List ℕ
all_lines r f vs = flat_map (verdict_lines r f) vs

-- The text lists the chosen verdicts.
abbrev pub IsLinesText : Recording → Folder → Chosen → List ℕ → Type 0
IsLinesText r f c text = text ≡ all_lines r f c.verdicts.items
