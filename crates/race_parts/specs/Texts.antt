-- The merged report as text. All notions here are this project's own.
use Rattle.std.specs.Prelude.{ℕ, ◌+◌, ◌-◌, nat_eq, Bool, ◌&&◌, not, true, false, cond, List, [], ◌∷◌, ◌++◌, map, flat_map, slice_get, Option, Some, None, codes, decimal}
use Rattle.serde_json.specs.Data.{Data, Items, no_items, item}
use Rattle.serde_json.specs.Find.{as_array, as_str, get}
use Rattle.serde_json.specs.View.{view}
use Rattle.serde_json.specs.declared.value.Value.{Value}
use Rattle.race_parts.specs.Members.{access_in, is_kind, said_number, said_text}
use Rattle.race_parts.specs.Accesses.{event_in}
use Rattle.race_parts.specs.Cells.{is_same}
use Rattle.race_parts.specs.Facts.{data_in}
use Rattle.race_parts.specs.declared.cells.Cell.{Cell}
use Rattle.race_parts.specs.declared.cells.Row.{Row}

-- a blank and the number
abbrev pub number_text : ℕ → List ℕ
number_text n = codes " " ++ decimal n

-- a line with a word and a number
abbrev pub count_line : List ℕ → ℕ → List ℕ
count_line word n = word ++ number_text n ++ codes "\n"

-- Bytes of a part. A line feed among them, which no trace has, is printed as `?`.
abbrev pub shown_byte : ℕ → ℕ
shown_byte b = cond (nat_eq b 10) 63 b

abbrev pub shown : List ℕ → List ℕ
shown bytes = map shown_byte bytes

-- a word, a blank, and the number of a member
abbrev pub field_text : List ℕ → List ℕ → Data → List ℕ
field_text word name d = word ++ number_text (said_number name d)

-- the line of a lock that the thread holds
abbrev pub text_in : Option (List ℕ) → List ℕ
text_in None = []
text_in (Some text) = text

abbrev pub hold_line : Data → List ℕ
hold_line d = codes "    holds " ++ shown (text_in (as_str d)) ++ codes "\n"

abbrev pub hold_lines : List Value → List ℕ
hold_lines vs = flat_map (λ v. hold_line (view v)) vs

abbrev pub item_lines : Items → List ℕ
item_lines no_items = []
item_lines (item d ds) = hold_line d ++ item_lines ds

abbrev pub list_lines : Option Items → List ℕ
list_lines None = []
list_lines (Some ds) = item_lines ds

abbrev pub held_by : Option Data → List ℕ
held_by None = []
held_by (Some d) = list_lines (as_array d)

abbrev pub holds_text : Data → List ℕ
holds_text d = held_by (get (codes "holds") d)

-- an access as it is in a trace, and the locks that its thread holds
abbrev pub begin_text : Data → List ℕ
begin_text d = codes "  " ++ shown (said_text (codes "thread") d) ++ codes "|" ++ shown (said_text (codes "operation") d)

abbrev pub end_text : Data → List ℕ
end_text d =
    codes "(" ++ shown (said_text (codes "variable") d) ++ codes ")|" ++ shown (said_text (codes "location") d) ++ codes "\n"

abbrev pub event_text : Data → List ℕ
event_text d = begin_text d ++ end_text d

abbrev pub access_by : Option Data → List ℕ
access_by None = []
access_by (Some d) = event_text d ++ holds_text d

abbrev pub access_text : ℕ → Data → List ℕ
access_text place d = access_by (access_in place d)

-- the first line of a block, as `triage` prints it
abbrev pub words_text : List ℕ → Data → List ℕ
words_text word d = word ++ number_text (event_in 0 d) ++ number_text (event_in 1 d)

abbrev pub how_text : Data → List ℕ
how_text d = codes " " ++ shown (said_text (codes "how") d)

abbrev pub sizes_text : Data → List ℕ
sizes_text d =
    field_text (codes " pairs") (codes "pairs") d ++ field_text (codes " variables") (codes "variables") d
    ++ field_text (codes " events") (codes "events") d ++ field_text (codes " threads") (codes "threads") d

abbrev pub race_text : Data → List ℕ
race_text d = words_text (codes "race") d ++ how_text d ++ sizes_text d

abbrev pub undecided_text : Data → List ℕ
undecided_text d =
    words_text (codes "undecided") d
    ++ field_text (codes " pairs") (codes "pairs") d ++ field_text (codes " variables") (codes "variables") d
    ++ field_text (codes " tried") (codes "tried") d

abbrev pub apart_text : Data → List ℕ
apart_text d = words_text (codes "apart") d ++ field_text (codes " pairs") (codes "pairs") d

abbrev pub head_text : Data → List ℕ
head_text d = cond (is_kind (codes "race") d) (race_text d) (cond (is_kind (codes "undecided") d) (undecided_text d) (apart_text d))

-- a row as a block of text
abbrev pub row_text : Data → List ℕ
row_text d = head_text d ++ codes "\n" ++ access_text 0 d ++ access_text 1 d

abbrev pub row_text_at : Option Row → List ℕ
row_text_at None = []
row_text_at (Some r) = row_text (data_in r.line.now)

abbrev pub one_if : Bool → ℕ
one_if b = cond b 1 0

-- how many cells have the locations of c and this rank, up to the first cell with other locations
abbrev pub run_count : Cell → ℕ → List Cell → ℕ
run_count c rank [] = 0
run_count c rank (d ∷ ds) = cond (is_same c d) (one_if (nat_eq d.rank rank) + run_count c rank ds) 0

-- a word, a blank, and a number
abbrev pub named_text : List ℕ → ℕ → List ℕ
named_text word n = word ++ number_text n

-- The numbers of parts in which the pair of locations is a race, undecided, apart and not met. Then the part whose
-- row is printed.
abbrev pub tally_text : ℕ → ℕ → ℕ → ℕ → List ℕ
tally_text parts races undecided apart =
    named_text (codes "    parts race") races ++ named_text (codes " undecided") undecided ++ named_text (codes " apart") apart
    ++ named_text (codes " unmet") (parts - races - undecided - apart) ++ codes "\n"

abbrev pub part_text : List ℕ → List ℕ
part_text name = codes "    part " ++ shown name ++ codes "\n"

abbrev pub tallies_text : ℕ → Cell → List Cell → List ℕ
tallies_text parts c cs = tally_text parts (run_count c 0 cs) (run_count c 1 cs) (run_count c 2 cs)

-- the block for cell c, which is the first of cs
abbrev pub block_text : ℕ → List Row → Cell → List Cell → List ℕ
block_text parts rows c cs =
    row_text_at (slice_get rows c.number)
    ++ tallies_text parts c cs
    ++ part_text c.part.now

-- the cell before it is of another pair of locations, or no cell is before it
abbrev pub is_new : Option Cell → Cell → Bool
is_new None c = true
is_new (Some before) c = not (is_same before c)

-- the cell is the first one for its pair of locations, and has this rank
abbrev pub is_head : Option Cell → ℕ → Cell → Bool
is_head before rank c = is_new before c && nat_eq c.rank rank

-- the blocks of the pairs with this rank
abbrev pub blocks_text : ℕ → List Row → ℕ → Option Cell → List Cell → List ℕ
blocks_text parts rows rank before [] = []
blocks_text parts rows rank before (c ∷ cs) =
    cond (is_head before rank c) (block_text parts rows c (c ∷ cs)) [] ++ blocks_text parts rows rank (Some c) cs

-- the number of pairs with this rank
abbrev pub heads_count : ℕ → Option Cell → List Cell → ℕ
heads_count rank before [] = 0
heads_count rank before (c ∷ cs) = one_if (is_head before rank c) + heads_count rank (Some c) cs

abbrev pub counts_text : ℕ → ℕ → ℕ → ℕ → List ℕ
counts_text parts races undecided apart =
    count_line (codes "parts") parts ++ count_line (codes "races") races
    ++ count_line (codes "undecided") undecided ++ count_line (codes "apart") apart

abbrev pub apart_blocks : Bool → ℕ → List Row → List Cell → List ℕ
apart_blocks true parts rows cells = blocks_text parts rows 2 None cells
apart_blocks false parts rows cells = []

-- the counts, and the blocks: races, undecided pairs, and apart pairs if they are wanted
abbrev pub merged_words : ℕ → List Row → List Cell → Bool → List ℕ
merged_words parts rows cells apart =
    counts_text parts (heads_count 0 None cells) (heads_count 1 None cells) (heads_count 2 None cells)
    ++ blocks_text parts rows 0 None cells
    ++ blocks_text parts rows 1 None cells
    ++ apart_blocks apart parts rows cells
