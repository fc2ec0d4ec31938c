-- The rows of all parts, and the order in which a report prints them. All notions here are this project's own.
use Rattle.std.specs.Prelude.{◌≡◌, ℕ, suc, Bool, ◌&&◌, cond, List, [], ◌∷◌, ◌++◌, map, flat_map, drop, slice_index_or, Vec, bytes_eq, Result, OnOk}
use Rattle.std.specs.declared.alloc.Global.{Global}
use Rattle.std.specs.declared.cmp.Ordering.{Ordering}
use Rattle.std.specs.Ordering.{nat_cmp, ordering_then, is_gt}
use Rattle.std.specs.List.Sorted.{IsPermutation, IsSorted}
use Rattle.race_parts.specs.Lines.{lines_of}
use Rattle.race_parts.specs.Parts.{bytes_cmp}
use Rattle.race_parts.specs.Said.{Said, fact_said, said_in}
use Rattle.race_parts.specs.declared.cells.Cell.{Cell}
use Rattle.race_parts.specs.declared.cells.Row.{Row}
use Rattle.race_parts.specs.declared.parts.Part.{Part}
use Rattle.race_parts.specs.declared.presorting.Quick.{Quick}

abbrev pub row_said : Row → Said
row_said r = fact_said r.part.now r.line.now r.fact

-- unless the answer is an error, these rows were appended
abbrev pub AppendedRows : {T E : Type 0} → Result T E → Vec Row Global → Vec Row Global → List Said → Type 0
AppendedRows answer old new said = OnOk answer (map row_said new.items ≡ map row_said old.items ++ said)

-- the rows of a part: each line of its text but the first
abbrev pub rows_of_part : List ℕ → Part → List Said
rows_of_part name p = map (said_in name) (drop 1 (lines_of p.text.items))

-- the rows of all parts, in the order of the parts' names
abbrev pub rows_in : List (Vec ℕ Global × Part) → List Said
rows_in es = flat_map (λ e. rows_of_part e.0.items e.1) es

abbrev pub lesser_of : List ℕ → List ℕ → List ℕ
lesser_of one other = cond (is_gt (bytes_cmp one other)) other one

abbrev pub greater_of : List ℕ → List ℕ → List ℕ
greater_of one other = cond (is_gt (bytes_cmp one other)) one other

-- The sort key of a row. Locations come first, the lesser before the greater. Then races come before undecided rows,
-- and these before apart rows. Then follow the events of the schedule, the part's name, the later event, the earlier
-- event and the row's number.
pub record Key : Type 0 where
  pub first : List ℕ
  pub second : List ℕ
  pub rank : ℕ
  pub size : ℕ
  pub part : List ℕ
  pub later : ℕ
  pub earlier : ℕ
  pub number : ℕ

abbrev pub key_of : ℕ → Said → Key
key_of number s = record {
  first = lesser_of s.one s.other;
  second = greater_of s.one s.other;
  rank = s.rank;
  size = s.size;
  part = s.part;
  later = s.later;
  earlier = s.earlier;
  number = number;
}

abbrev pub cell_key : Cell → Key
cell_key c = record {
  first = c.first.now;
  second = c.second.now;
  rank = c.rank;
  size = c.size;
  part = c.part.now;
  later = c.later;
  earlier = c.earlier;
  number = c.number;
}

-- for each key the cell with its number; `other` if no cell has that number
abbrev pub cells_by : List Cell → Cell → List Quick → List Cell
cells_by cells other keys = map (λ k. slice_index_or cells k.number other) keys

abbrev pub key_cmp : Key → Key → Ordering
key_cmp a b =
    ordering_then (bytes_cmp a.first b.first)
    (ordering_then (bytes_cmp a.second b.second)
    (ordering_then (nat_cmp a.rank b.rank)
    (ordering_then (nat_cmp a.size b.size)
    (ordering_then (bytes_cmp a.part b.part)
    (ordering_then (nat_cmp a.later b.later)
    (ordering_then (nat_cmp a.earlier b.earlier) (nat_cmp a.number b.number)))))))

-- the keys of rows that are numbered from n on
abbrev pub keys_from : ℕ → List Said → List Key
keys_from n [] = []
keys_from n (s ∷ ss) = key_of n s ∷ keys_from (suc n) ss

-- The cells are the rows' cells, sorted by their keys.
pub record AreSorted (rows : List Said) (cells : List Cell) : Type 0 where
  pub before : List Cell
  pub keys : map cell_key before ≡ keys_from 0 rows
  pub permutation : IsPermutation before cells
  pub sorted : IsSorted (λ a b. key_cmp (cell_key a) (cell_key b)) cells

-- whether two cells have the same pair of locations
abbrev pub is_same : Cell → Cell → Bool
is_same a b = bytes_eq a.first.now b.first.now && bytes_eq a.second.now b.second.now
