-- The rows of a merged page. All notions here are this project's own.
use Rattle.std.specs.Prelude.{ℕ, nat_eq, cond, List, [], ◌∷◌, ◌++◌, flat_map, codes, decimal, bytes_eq, Option, Some, None}
use Rattle.std.specs.List.{concat}
use Rattle.markup.specs.Escaped.{escaped}
use Rattle.serde_json.specs.Data.{Data}
use Rattle.explain_report.specs.places.Places.{before_arrow}
use Rattle.race_parts.specs.Accesses.{event_in}
use Rattle.race_parts.specs.Facts.{data_in}
use Rattle.race_parts.specs.Members.{access_in, said_number, said_text}
use Rattle.race_parts.specs.declared.pairs.Pair.{Pair}
use Rattle.race_page.specs.MergedTable.{table_text}
use Rattle.race_page.specs.MergedTally.{tally_text}

-- the name of the variable
abbrev pub variable_text : Data → List ℕ
variable_text d = concat (codes "<bdi>" ∷ escaped (said_text (codes "variable") d) ∷ codes "</bdi>: " ∷ [])

abbrev pub variable_by : Option Data → List ℕ
variable_by None = []
variable_by (Some d) = variable_text d

abbrev pub first_text : Data → List ℕ
first_text d = variable_by (access_in 0 d)

-- what an access does, and where
abbrev pub verb_text : List ℕ → List ℕ
verb_text word = cond (bytes_eq word (codes "r")) (codes "read") (codes "write")

abbrev pub use_of : Data → List ℕ
use_of d =
    concat (verb_text (said_text (codes "operation") d) ∷ codes " at <bdi>" ∷ escaped (before_arrow (said_text (codes "location") d)) ∷ codes "</bdi>" ∷ [])

abbrev pub use_by : Option Data → List ℕ
use_by None = []
use_by (Some d) = use_of d

abbrev pub use_text : ℕ → Data → List ℕ
use_text place d = use_by (access_in place d)

-- the variable, and both accesses
abbrev pub uses_text : Data → List ℕ
uses_text d = first_text d ++ use_text 0 d ++ codes ", " ++ use_text 1 d

-- what was found of a row of this rank
abbrev pub size_text : ℕ → ℕ → List ℕ
size_text events threads = concat (codes ", a schedule with events: " ∷ decimal events ∷ codes ", threads: " ∷ decimal threads ∷ [])

abbrev pub sizes_text : Data → List ℕ
sizes_text d = size_text (said_number (codes "events") d) (said_number (codes "threads") d)

abbrev pub race_text : Data → List ℕ
race_text d = escaped (said_text (codes "how") d) ++ sizes_text d

abbrev pub undecided_text : Data → List ℕ
undecided_text d = concat (codes "undecided, tried: " ∷ decimal (said_number (codes "tried") d) ∷ [])

abbrev pub outcome_text : ℕ → Data → List ℕ
outcome_text rank d = cond (nat_eq rank 0) (race_text d) (cond (nat_eq rank 1) (undecided_text d) (codes "apart"))

-- the events
abbrev pub events_text : ℕ → ℕ → List ℕ
events_text a b = concat (codes "</h3> <span class=\"facts\">Events " ∷ decimal a ∷ codes " and " ∷ decimal b ∷ codes ": " ∷ [])

abbrev pub both_text : Data → List ℕ
both_text d = events_text (event_in 0 d) (event_in 1 d)

-- what is seen of a row that is closed
abbrev pub opening_text : Data → List ℕ
opening_text d = codes "<details>\n<summary><h3>" ++ uses_text d ++ both_text d

abbrev pub summary_text : ℕ → Data → List ℕ
summary_text rank d = opening_text d ++ outcome_text rank d ++ codes "</span></summary>\n"

-- the row of a pair, of which the value says this
abbrev pub shown_row : ℕ → Pair → Data → List ℕ
shown_row parts p d = summary_text p.rank d ++ table_text d ++ tally_text parts p

unfoldable pub pair_row : ℕ → Pair → List ℕ
pair_row parts p = shown_row parts p (data_in p.line.now)

-- a row for each of the pairs
abbrev pub rows_text : ℕ → List Pair → List ℕ
rows_text parts ps = flat_map (pair_row parts) ps
