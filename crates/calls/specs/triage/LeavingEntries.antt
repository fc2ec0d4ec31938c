-- Which entries of a triage file are about a race of a merged report. `rows` are the rows of all parts. All notions here
-- are this project's own.
use Rattle.std.specs.Prelude.{nat_eq, ◌&&◌, ◌||◌, not, Bool, true, false, cond, List, [], ◌∷◌, slice_get, codes, Option, Some, None}
use Rattle.std.specs.List.{list_any}
use Rattle.serde_json.specs.Data.{Data as RowData}
use Rattle.race_parts.specs.Cells.{is_same}
use Rattle.race_parts.specs.Facts.{data_in}
use Rattle.race_parts.specs.Members.{said_number}
use Rattle.race_parts.specs.Texts.{is_new}
use Rattle.race_parts.specs.declared.cells.Cell.{Cell}
use Rattle.race_parts.specs.declared.cells.Row.{Row}
use Rattle.toml.specs.Data.{Data}
use Rattle.toml.specs.View.{view}
use Rattle.toml.specs.declared.value.Value.{Value}
use Rattle.triage_file.specs.Entries.{hides}
use Rattle.triage_file.specs.Matching.{are_sides, has_variables, is_named}
use Rattle.calls.specs.triage.LeavingLines.{variable_in}

-- a race with this row is on one variable alone, which the entry names
abbrev pub names_all : Data → RowData → Bool
names_all d row = nat_eq (said_number (codes "variables") row) 1 && is_named d (variable_in row)

abbrev pub is_row_named : Data → Option Row → Bool
is_row_named d None = false
is_row_named d (Some r) = names_all d (data_in r.line.now)

-- the cell is no race, or is one on one variable alone, which the entry names
abbrev pub is_one_named : List Row → Data → Cell → Bool
is_one_named rows d c = cond (nat_eq c.rank 0) (is_row_named d (slice_get rows c.number)) true

-- that holds of each cell of the list, up to the first of other locations
abbrev pub are_named : List Row → Data → Cell → List Cell → Bool
are_named rows d c [] = true
are_named rows d c (e ∷ es) = cond (is_same c e) (is_one_named rows d e && are_named rows d c es) true

-- The entry is about the races of the cell's locations, whose first cell it is: the two accesses are those of the entry,
-- and if the entry has variables, each of the races is on one variable alone, which the entry names.
abbrev pub is_about : List Row → Data → Cell → List Cell → Bool
is_about rows d c cs = are_sides d c.first.now c.second.now && (not (has_variables d) || are_named rows d c cs)

-- it leaves them out
abbrev pub leaves_out : List Row → Cell → List Cell → Data → Bool
leaves_out rows c cs d = hides d && is_about rows d c cs

-- an entry leaves them out
abbrev pub is_decided : List Row → List Value → Cell → List Cell → Bool
is_decided rows es c cs = list_any (λ e. leaves_out rows c cs (view e)) es

-- the cell is a race, the first of its locations, and the entry is about it
abbrev pub is_first_about : List Row → Data → Option Cell → Cell → List Cell → Bool
is_first_about rows d before c cs = (is_new before c && nat_eq c.rank 0) && is_about rows d c cs

-- the entry is about a race
abbrev pub is_met : List Row → Data → Option Cell → List Cell → Bool
is_met rows d before [] = false
is_met rows d before (c ∷ cs) = is_first_about rows d before c (c ∷ cs) || is_met rows d (Some c) cs
