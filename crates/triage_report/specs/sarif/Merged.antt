-- A merged report as a log: a result for each pair of places. All notions here are this project's own.
use Rattle.std.specs.Prelude.{ℕ, nat_eq, Bool, cond, List, [], ◌∷◌, ◌++◌, map, codes, decimal, bytes_eq, Option, Some, None}
use Rattle.std.specs.List.{after_last, before_last, concat}
use Rattle.serde_json.specs.Data.{Data, no_members, object}
use Rattle.race_parts.specs.Accesses.{event_in}
use Rattle.race_parts.specs.Facts.{data_in}
use Rattle.race_parts.specs.Members.{access_in, said_number, said_text}
use Rattle.race_parts.specs.Pairs.{Shown, pair_shown}
use Rattle.race_parts.specs.declared.pairs.Pair.{Pair}
use Rattle.explain_report.specs.places.Places.{is_blank}
use Rattle.triage_report.specs.lines.Reasons.{apart_words, plural_end, race_words, undecided_words}
use Rattle.triage_report.specs.sarif.Accesses.{Told}
use Rattle.triage_report.specs.sarif.Logs.{joined, rest_text}
use Rattle.triage_report.specs.sarif.Results.{found_members}
use Rattle.triage_report.specs.sarif.Words.{both_words, title_words}
use Rattle.triage_report.specs.declared.sarif.logs.TheConstants.{HEAD}
use Rattle.triage_report.specs.declared.sarif.sources.Sources.{Sources}

-- what a thread does at an operation; another word as it is
abbrev pub verb_of : List ℕ → List ℕ
verb_of word = cond (bytes_eq word (codes "r")) (codes "reads") (cond (bytes_eq word (codes "w")) (codes "writes") word)

-- an access of a row, as a log says it
abbrev pub told_by : Option Data → Told
told_by None = record {
  thread = [];
  verb = [];
  variable = [];
  location = [];
}
told_by (Some d) = record {
  thread = said_text (codes "thread") d;
  verb = verb_of (said_text (codes "operation") d);
  variable = said_text (codes "variable") d;
  location = said_text (codes "location") d;
}

abbrev pub told_in : ℕ → Data → Told
told_in place d = told_by (access_in place d)

-- what was found of a row of this rank, and both accesses
abbrev pub pair_words : ℕ → Data → List ℕ
pair_words rank d = title_words rank (told_in 1 d) ++ both_words (told_in 0 d) (told_in 1 d)

-- why a row of this rank says it
abbrev pub row_words : ℕ → Data → List ℕ
row_words rank d =
    cond (nat_eq rank 0) (race_words (said_number (codes "events") d) (said_number (codes "threads") d))
    (cond (nat_eq rank 1) (undecided_words (said_number (codes "tried") d)) apart_words)

-- in how many of the parts the two places are what
abbrev pub tally_words : ℕ → Shown → List ℕ
tally_words parts p =
    concat (codes ". Of " ∷ decimal parts ∷ codes " part" ∷ plural_end parts ∷ codes ", race in " ∷ decimal p.races ∷ codes ", undecided in "
    ∷ decimal p.undecided ∷ codes ", apart in " ∷ decimal p.apart ∷ [])

-- which part the row is from, and its two events
abbrev pub from_words : ℕ → List ℕ
from_words rank = cond (nat_eq rank 0) (codes ". Shortest schedule: events ") (codes ". Shown: events ")

abbrev pub origin_words : Shown → Data → List ℕ
origin_words p d =
    concat (from_words p.rank ∷ decimal (event_in 0 d) ∷ codes " and " ∷ decimal (event_in 1 d) ∷ codes " of part " ∷ p.part ∷ [])

-- a part is a window if the last word but one of its name is `--window`: with `racebench cut` before it, the name prints it
abbrev pub is_window : List ℕ → Bool
is_window name = bytes_eq (after_last is_blank (before_last is_blank name)) (codes "--window")

abbrev pub window_words : List ℕ → List ℕ
window_words name = cond (is_window name) (concat (codes ". Window: racebench cut " ∷ name ∷ [])) []

-- the message about a pair of places whose row has this value
abbrev pub merged_words : ℕ → Shown → Data → List ℕ
merged_words parts p d = pair_words p.rank d ++ row_words p.rank d ++ tally_words parts p ++ origin_words p d ++ window_words p.part

-- the result of a pair of places
abbrev pub row_object : ℕ → Sources → Shown → Data → Data
row_object parts s p d = object (found_members s p.rank (merged_words parts p d) (told_in 0 d) (told_in 1 d) no_members)

abbrev pub merged_object : ℕ → Sources → Shown → Data
merged_object parts s p = row_object parts s p (data_in p.line)

-- a result for each pair of places
abbrev pub merged_objects : ℕ → Sources → List Pair → List Data
merged_objects parts s ps = map (λ p. merged_object parts s (pair_shown p)) ps

-- The whole log of `parts` parts. It counts the known races that were left out, and what filters left out, if there are such numbers.
abbrev pub merged_log : ℕ → Sources → List Pair → Option ℕ → Option ℕ → List ℕ
merged_log parts s ps known hidden = HEAD.now ++ joined (merged_objects parts s ps) ++ rest_text s.root.now known hidden
