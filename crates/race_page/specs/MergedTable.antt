-- The table of the two accesses of a row of a merged page. All notions here are this project's own.
use Rattle.std.specs.Prelude.{ℕ, List, [], ◌∷◌, ◌++◌, flat_map, codes, decimal, Option, Some, None}
use Rattle.std.specs.List.{concat}
use Rattle.markup.specs.Escaped.{escaped}
use Rattle.serde_json.specs.Data.{Data, Items, no_items, item}
use Rattle.serde_json.specs.Find.{as_array, as_str, get}
use Rattle.serde_json.specs.View.{view}
use Rattle.serde_json.specs.declared.value.Value.{Value}
use Rattle.race_parts.specs.Members.{access_in, said_number, said_text}
use Rattle.race_parts.specs.Texts.{text_in}
use Rattle.race_page.specs.declared.merged_table.TheConstants.{TABLE_BEGIN, TABLE_END}

-- the locks that are held at an access
abbrev pub lock_text : Data → List ℕ
lock_text d = concat (codes "<bdi>" ∷ escaped (text_in (as_str d)) ∷ codes "</bdi> " ∷ [])

abbrev pub lock_names : List Value → List ℕ
lock_names vs = flat_map (λ v. lock_text (view v)) vs

abbrev pub locks_cell : List Value → List ℕ
locks_cell [] = codes "none"
locks_cell (v ∷ vs) = lock_names (v ∷ vs)

abbrev pub lock_items : Items → List ℕ
lock_items no_items = []
lock_items (item d ds) = lock_text d ++ lock_items ds

abbrev pub locks_listed : Items → List ℕ
locks_listed no_items = codes "none"
locks_listed (item d ds) = lock_items (item d ds)

abbrev pub list_locks : Option Items → List ℕ
list_locks None = codes "none"
list_locks (Some ds) = locks_listed ds

abbrev pub locks_by : Option Data → List ℕ
locks_by None = codes "none"
locks_by (Some d) = list_locks (as_array d)

abbrev pub locks_text : Data → List ℕ
locks_text d = locks_by (get (codes "holds") d)

-- the line of an access: its event, what is done, and the locks that its thread holds before it
abbrev pub number_text : Data → List ℕ
number_text d = concat (codes "<tr><th scope=\"row\">" ∷ decimal (said_number (codes "event") d) ∷ codes "</th><td><code>" ∷ [])

abbrev pub begin_text : Data → List ℕ
begin_text d = concat (escaped (said_text (codes "thread") d) ∷ codes "|" ∷ escaped (said_text (codes "operation") d) ∷ [])

abbrev pub end_text : Data → List ℕ
end_text d =
    concat (codes "(" ∷ escaped (said_text (codes "variable") d) ∷ codes ")|" ∷ escaped (said_text (codes "location") d) ∷ codes "</code></td><td>" ∷ [])

abbrev pub event_text : Data → List ℕ
event_text d = number_text d ++ begin_text d ++ end_text d

abbrev pub line_text : Data → List ℕ
line_text d = event_text d ++ locks_text d ++ codes "</td></tr>\n"

abbrev pub line_by : Option Data → List ℕ
line_by None = []
line_by (Some d) = line_text d

abbrev pub access_row : ℕ → Data → List ℕ
access_row place d = line_by (access_in place d)

-- the table of both accesses
abbrev pub table_text : Data → List ℕ
table_text d = TABLE_BEGIN.now ++ access_row 0 d ++ access_row 1 d ++ TABLE_END.now
