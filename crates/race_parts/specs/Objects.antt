-- The merged report as JSON. The members of an object are in the order of their names. All notions here are this
-- project's own.
use Rattle.std.specs.Prelude.{ℕ, ◌+◌, ◌-◌, nat_eq, cond, List, [], ◌∷◌, ◌++◌, flat_map, length, Vec, Option, Some, None, codes}
use Rattle.std.specs.declared.alloc.Global.{Global}
use Rattle.std.specs.Str.Lossy.{utf8_lossy}
use Rattle.serde_json.specs.Data.{Data, number, unsigned, string, object, no_members, member}
use Rattle.serde_json.specs.Written.{compact_text}
use Rattle.race_parts.specs.Texts.{is_new, one_if, run_count}
use Rattle.race_parts.specs.declared.cells.Cell.{Cell}
use Rattle.race_parts.specs.declared.objects.Tally.{Tally}
use Rattle.race_parts.specs.declared.parts.Part.{Part}

-- a number
abbrev pub whole : ℕ → Data
whole n = number (unsigned n)

-- the bytes as a JSON text; bytes that are not UTF-8 become U+FFFD
abbrev pub text : List ℕ → Data
text bytes = string (utf8_lossy bytes)

-- the text of an object, and a line feed
abbrev pub json_line : Data → List ℕ
json_line d = compact_text d ++ codes "\n"

-- the first line: the number of parts, and the number of pairs of locations
abbrev pub merged_object : ℕ → ℕ → Data
merged_object parts pairs =
    object
    (member (codes "kind") (string (codes "merged"))
    (member (codes "pairs") (whole pairs)
    (member (codes "parts") (whole parts)
    (member (codes "version") (whole 1)
    no_members))))

-- a part, with its name and its text
abbrev pub part_object : List ℕ → List ℕ → Data
part_object name bytes =
    object
    (member (codes "kind") (string (codes "part"))
    (member (codes "name") (text name)
    (member (codes "text") (text bytes)
    no_members)))

abbrev pub verdict_word : ℕ → List ℕ
verdict_word rank = cond (nat_eq rank 0) (codes "race") (cond (nat_eq rank 1) (codes "undecided") (codes "apart"))

-- A pair of locations: the values of its first cell, and the numbers of parts in which it is a race, undecided, apart
-- and not met.
abbrev pub pair_object : Cell → ℕ → ℕ → ℕ → ℕ → Data
pair_object c races undecided apart unmet =
    object
    (member (codes "apart") (whole apart)
    (member (codes "earlier") (whole c.earlier)
    (member (codes "events") (whole c.size)
    (member (codes "first") (text c.first.now)
    (member (codes "kind") (string (codes "pair"))
    (member (codes "later") (whole c.later)
    (member (codes "part") (text c.part.now)
    (member (codes "race") (whole races)
    (member (codes "second") (text c.second.now)
    (member (codes "undecided") (whole undecided)
    (member (codes "unmet") (whole unmet)
    (member (codes "verdict") (string (verdict_word c.rank))
    no_members))))))))))))

-- the same for numbers of parts that were counted
abbrev pub tally_object : Cell → Tally → Data
tally_object c t = pair_object c t.races t.undecided t.apart t.unmet

abbrev pub pair_object_at : ℕ → Cell → List Cell → Data
pair_object_at parts c cs =
    pair_object c (run_count c 0 cs) (run_count c 1 cs) (run_count c 2 cs)
    (parts - run_count c 0 cs - run_count c 1 cs - run_count c 2 cs)

abbrev pub part_lines : List (Vec ℕ Global × Part) → List ℕ
part_lines es = flat_map (λ e. json_line (part_object e.0.items e.1.text.items)) es

-- the line of a pair of locations, whose first cell is c
abbrev pub pair_line : ℕ → Cell → List Cell → List ℕ
pair_line parts c cs = json_line (pair_object_at parts c cs)

-- a line for each pair of locations
abbrev pub pair_lines : ℕ → Option Cell → List Cell → List ℕ
pair_lines parts before [] = []
pair_lines parts before (c ∷ cs) =
    cond (is_new before c) (pair_line parts c (c ∷ cs)) [] ++ pair_lines parts (Some c) cs

-- the number of pairs of locations
abbrev pub news_count : Option Cell → List Cell → ℕ
news_count before [] = 0
news_count before (c ∷ cs) = one_if (is_new before c) + news_count (Some c) cs

-- all lines of the report
abbrev pub merged_lines : List (Vec ℕ Global × Part) → List Cell → List ℕ
merged_lines es cells =
    json_line (merged_object (length es) (news_count None cells)) ++ part_lines es ++ pair_lines (length es) None cells
