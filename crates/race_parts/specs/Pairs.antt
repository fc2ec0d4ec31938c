-- The pairs of locations in a report, each with the row to print and the parts' verdicts. All notions here are this
-- project's own.
use Rattle.std.specs.Prelude.{◌≡◌, ℕ, Bool, true, false, cond, List, [], ◌∷◌, ◌++◌, map, slice_get, Option, Some, None, Result, OnOk, Vec}
use Rattle.std.specs.declared.alloc.Global.{Global}
use Rattle.race_parts.specs.Texts.{is_head, run_count}
use Rattle.race_parts.specs.declared.cells.Cell.{Cell}
use Rattle.race_parts.specs.declared.cells.Row.{Row}
use Rattle.race_parts.specs.declared.pairs.Pair.{Pair}

-- The line of the row to print, the name of its part and its rank. Then the numbers of parts in which the pair is a
-- race, undecided and apart.
pub record Shown : Type 0 where
  pub line : List ℕ
  pub part : List ℕ
  pub rank : ℕ
  pub races : ℕ
  pub undecided : ℕ
  pub apart : ℕ

abbrev pub pair_shown : Pair → Shown
pair_shown p = record {
  line = p.line.now;
  part = p.part.now;
  rank = p.rank;
  races = p.races;
  undecided = p.undecided;
  apart = p.apart;
}

-- unless the answer is an error, these pairs were appended
abbrev pub AppendedPairs : {T E : Type 0} → Result T E → Vec Pair Global → Vec Pair Global → List Shown → Type 0
AppendedPairs answer old new shown = OnOk answer (map pair_shown new.items ≡ map pair_shown old.items ++ shown)

abbrev pub line_by : Option Row → List ℕ
line_by None = []
line_by (Some r) = r.line.now

-- the pair for cell c, which is the first of cs
abbrev pub pair_told : List Row → Cell → List Cell → Shown
pair_told rows c cs = record {
  line = line_by (slice_get rows c.number);
  part = c.part.now;
  rank = c.rank;
  races = run_count c 0 cs;
  undecided = run_count c 1 cs;
  apart = run_count c 2 cs;
}

-- the pairs with this rank
abbrev pub pairs_told : List Row → ℕ → Option Cell → List Cell → List Shown
pairs_told rows rank before [] = []
pairs_told rows rank before (c ∷ cs) = cond (is_head before rank c) (pair_told rows c (c ∷ cs) ∷ []) [] ++ pairs_told rows rank (Some c) cs

abbrev pub pairs_by : Bool → List Row → List Cell → List Shown
pairs_by true rows cells = pairs_told rows 2 None cells
pairs_by false rows cells = []

-- all pairs in the order of the report: races, undecided pairs, and apart pairs if they are wanted
abbrev pub pairs_shown : List Row → List Cell → Bool → List Shown
pairs_shown rows cells apart = pairs_told rows 0 None cells ++ pairs_told rows 1 None cells ++ pairs_by apart rows cells
