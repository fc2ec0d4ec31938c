-- A triage file that has an entry for each race, and no entry twice. `r` is the trace's recording, and `numbers` has the number of each
-- event's location. All notions here are this project's own.
use Rattle.std.specs.Prelude.{◌≡◌, ℕ, ◌==◌, ◌&&◌, ◌||◌, nat_eq, nat_lt, cond, not, Bool, true, false, List, [], ◌∷◌, ◌++◌, length, slice_index, codes, Option, Some, None, bytes_eq, Result, OnOk, Vec}
use Rattle.std.specs.declared.alloc.Global.{Global}
use Rattle.std.specs.List.{concat, fold, list_all, list_any}
use Rattle.std.specs.Cmp.Lexicographic.{pointwise}
use Rattle.std.specs.Str.Lossy.{utf8_lossy}
use Rattle.rapid_text.specs.Recording.{Recording}
use Rattle.event_index.specs.Lookups.{before}
use Rattle.race_triage.specs.Places.{with_text}
use Rattle.race_triage.specs.declared.chosen.Chosen.{Chosen}
use Rattle.race_triage.specs.declared.verdicts.Verdict.{Verdict}
use Rattle.explain_report.specs.places.Located.{location_at}
use Rattle.explain_report.specs.places.Places.{before_arrow}
use Rattle.toml_writer.specs.Text.{string_text}
use Rattle.variable_names.specs.Names.{is_address, without_number}
use Rattle.triage_file.specs.Matching.{function_of, is_at, is_race, line_of, path_of, use_at}

-- bytes of a trace as a TOML string; bytes that are not UTF-8 become U+FFFD
abbrev pub text_of : List ℕ → List ℕ
text_of bytes = string_text (utf8_lossy bytes)

-- a key with an array of two items
abbrev pub two_of : List ℕ → List ℕ → List ℕ → List ℕ
two_of key one other = concat (key ∷ codes " = [" ∷ one ∷ codes ", " ∷ other ∷ codes "]\n" ∷ [])

abbrev pub place_at : Recording → ℕ → List ℕ
place_at r e = before_arrow (location_at r e)

abbrev pub path_text : Recording → ℕ → List ℕ
path_text r e = text_of (path_of (place_at r e))

abbrev pub function_text : Recording → ℕ → List ℕ
function_text r e = text_of (function_of (location_at r e))

-- the digits are a positive number as TOML writes it, below 10^18
abbrev pub is_plain : List ℕ → Bool
is_plain digits = nat_lt 0 (length digits) && (nat_lt (length digits) 19 && not (slice_index digits 0 == 48))

-- the line of an access; 0 if its location names none
abbrev pub line_text : Recording → ℕ → List ℕ
line_text r e = cond (is_plain (line_of (place_at r e))) (line_of (place_at r e)) (codes "0")

-- the other variable, if there is one, is this one, without numbers
abbrev pub is_same_by : List ℕ → Option (List ℕ) → Bool
is_same_by name None = true
is_same_by name (Some other) = bytes_eq (without_number other) (without_number name)

-- event e is not at location p, or accesses no variable other than this one, without numbers
abbrev pub is_only : Recording → List ℕ → List ℕ → ℕ → ℕ → Bool
is_only r numbers name p e = not (is_at numbers p e) || is_same_by name (use_at r e)

-- no access at location p is to another variable
abbrev pub is_alone : Recording → List ℕ → List ℕ → ℕ → Bool
is_alone r numbers name p = list_all (is_only r numbers name p) (before (length r.events))

-- the variable is written without its number
abbrev pub name_line : List ℕ → List ℕ
name_line name = concat (codes "variables = [" ∷ text_of (without_number name) ∷ codes "]\n" ∷ [])

abbrev pub alone_line : Recording → List ℕ → List ℕ → ℕ × ℕ → List ℕ
alone_line r numbers name places = cond (is_alone r numbers name places.0 || is_alone r numbers name places.1) (name_line name) []

-- an address is no variable
abbrev pub source_line : Recording → List ℕ → List ℕ → ℕ × ℕ → List ℕ
source_line r numbers name places = cond (is_address name) [] (alone_line r numbers name places)

abbrev pub variable_by : Recording → List ℕ → Verdict → Option (List ℕ) → List ℕ
variable_by r numbers v None = []
variable_by r numbers v (Some name) = source_line r numbers name v.row.places

-- the variable of a race, if the source has it and one of the race's locations has no access to another; without it,
-- the lines decide
abbrev pub variable_line : Recording → List ℕ → Verdict → List ℕ
variable_line r numbers v = variable_by r numbers v (use_at r v.first)

-- the paths, the functions and the lines of two accesses
abbrev pub paths_line : Recording → ℕ → ℕ → List ℕ
paths_line r a b = two_of (codes "paths") (path_text r a) (path_text r b)

abbrev pub functions_line : Recording → ℕ → ℕ → List ℕ
functions_line r a b = two_of (codes "functions") (function_text r a) (function_text r b)

abbrev pub lines_line : Recording → ℕ → ℕ → List ℕ
lines_line r a b = two_of (codes "lines") (line_text r a) (line_text r b)

-- the entry of a race, with its accesses in this order
abbrev pub entry_text : Recording → List ℕ → Verdict → ℕ → ℕ → List ℕ
entry_text r numbers v a b =
    codes "[[race]]\n" ++ paths_line r a b ++ functions_line r a b ++ variable_line r numbers v ++ lines_line r a b
    ++ codes "verdict = \"known\"\nreason = \"\"\nauthor = \"\"\n\n"

-- the entries with that of one more race, unless they have it, in either order of its accesses
abbrev pub with_race : Recording → List ℕ → List (List ℕ) → Verdict → List (List ℕ)
with_race r numbers texts v =
    cond (list_any (pointwise nat_eq (entry_text r numbers v v.second v.first)) texts) texts
    (with_text texts (entry_text r numbers v v.first v.second))

-- the same of a verdict, if it is a race
abbrev pub with_verdict : Recording → List ℕ → List (List ℕ) → Verdict → List (List ℕ)
with_verdict r numbers texts v = cond (is_race v) (with_race r numbers texts v) texts

-- the entries of the races among these verdicts, each once
abbrev pub race_entries : Recording → List ℕ → List Verdict → List (List ℕ)
race_entries r numbers vs = fold (with_verdict r numbers) [] vs

-- the entries of the races among the chosen verdicts
abbrev pub IsTriageFile : Recording → List ℕ → Chosen → List ℕ → Type 0
IsTriageFile r numbers c text = text ≡ concat (race_entries r numbers c.verdicts.items)

-- unless the answer is an error, these entries were appended
abbrev pub AppendedEntries :
    {T E : Type 0} → Result T E → Vec ℕ Global → Vec ℕ Global → Recording → List ℕ → Chosen → Type 0
AppendedEntries answer old new r numbers c =
    OnOk answer ((text : List ℕ) × IsTriageFile r numbers c text × (new.items ≡ old.items ++ text))
