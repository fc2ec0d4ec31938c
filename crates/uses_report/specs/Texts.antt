-- The text of a table. `r` is the recording of a trace, and k is the index of a row. All notions here are this
-- project's own.
use Rattle.std.specs.Prelude.{ℕ, ◌==◌, Bool, false, cond, List, [], ◌∷◌, ◌++◌, flat_map, length, Option, Some, None, slice_get, slice_index, slice_index_or, Vec, codes}
use Rattle.std.specs.declared.alloc.Global.{Global}
use Rattle.rapid_text.specs.Recording.{Recording}
use Rattle.rapid_text.specs.declared.event.Event.{Event}
use Rattle.rapid_text.specs.declared.event.Op.{Op}
use Rattle.rapid_text.specs.declared.event.Op.TheVariants.{Read, Write}
use Rattle.event_index.specs.Lookups.{before}
use Rattle.race_triage.specs.Pieces.{count_line, number_text}
use Rattle.variable_uses.specs.declared.columns.LockCount.{LockCount}
use Rattle.variable_uses.specs.declared.order.Side.{Side}
use Rattle.variable_uses.specs.declared.uses.Uses.{Uses}
use Rattle.uses_report.specs.Totals.{accesses_in, flags_set}

-- the word for an operation
abbrev pub op_words : Op → List ℕ
op_words (Read x) = codes "read"
op_words (Write x) = codes "write"
op_words op = codes "other"

abbrev pub word_by : Option Event → List ℕ
word_by None = codes "other"
word_by (Some v) = op_words v.op

-- the word for the operation of event e
abbrev pub word_of : Recording → ℕ → List ℕ
word_of r e = word_by (slice_get r.events e)

-- where the accesses of a row are: in the race, before all accesses of the race, after all such accesses, or elsewhere
abbrev pub side_words : Option Side → List ℕ
side_words None = []
side_words (Some side) = cond side.is_before (codes " before the race") (cond side.is_after (codes " after the race") [])

abbrev pub where_words : Uses → ℕ → List ℕ
where_words uses k = cond (slice_index_or uses.named.items k false) (codes " in the race") (side_words (slice_get uses.sides.items k))

-- the first line of a row: its operation, how many accesses and threads it has, and where they are
abbrev pub head_line : Recording → Uses → ℕ → List ℕ
head_line r uses k =
    word_of r (slice_index uses.firsts.items k) ++ number_text (slice_index uses.counts.items k)
    ++ codes " threads" ++ number_text (slice_index uses.threads.items k) ++ where_words uses k ++ codes "\n"

-- the line of its location
abbrev pub location_line : Recording → ℕ → List ℕ
location_line r e = codes "  " ++ slice_index_or r.locations e [] ++ codes "\n"

-- at how many accesses a lock is held, unless all `all` accesses hold it
abbrev pub part_text : ℕ → ℕ → List ℕ
part_text all count = cond (all == count) [] (codes " at" ++ number_text count)

-- a line for a lock that is held
abbrev pub held_line : Recording → ℕ → LockCount → List ℕ
held_line r all held = codes "    holds " ++ slice_index_or r.locks held.lock [] ++ part_text all held.count ++ codes "\n"

-- a line for each of the locks, or one that says that there are none
abbrev pub held_lines : Recording → ℕ → List LockCount → List ℕ
held_lines r all [] = codes "    holds nothing\n"
held_lines r all (l ∷ ls) = flat_map (held_line r all) (l ∷ ls)

abbrev pub column_lines : Recording → ℕ → Option (Vec LockCount Global) → List ℕ
column_lines r all None = []
column_lines r all (Some column) = held_lines r all column.items

-- the lines of a row
abbrev pub row_text : Recording → Uses → ℕ → List ℕ
row_text r uses k =
    head_line r uses k ++ location_line r (slice_index uses.firsts.items k)
    ++ column_lines r (slice_index uses.counts.items k) (slice_get uses.locks.items k)

-- the lines of all rows, in the order of their first accesses
abbrev pub rows_text : Recording → Uses → ℕ → List ℕ
rows_text r uses n = flat_map (row_text r uses) (before n)

-- a line for a lock, with the number of accesses that hold it
abbrev pub total_line : Recording → LockCount → List ℕ
total_line r held = codes "  " ++ slice_index_or r.locks held.lock [] ++ codes " at" ++ number_text held.count ++ codes "\n"

-- the number of locks, and a line for each
abbrev pub locks_text : Recording → List LockCount → List ℕ
locks_text r locks = count_line (codes "locks") (length locks) ++ flat_map (total_line r) locks

-- the numbers of variables, accesses and rows
abbrev pub counts_text : List Bool → Uses → List ℕ
counts_text chosen uses =
    count_line (codes "variables") (flags_set chosen) ++ count_line (codes "accesses") (accesses_in uses)
    ++ count_line (codes "rows") (length uses.firsts.items)

-- the whole text
abbrev pub uses_words : Recording → List Bool → Uses → List ℕ
uses_words r chosen uses =
    counts_text chosen uses ++ rows_text r uses (length uses.firsts.items) ++ locks_text r uses.totals.items
