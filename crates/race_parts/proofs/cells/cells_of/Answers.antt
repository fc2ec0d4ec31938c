use Rattle.std.proofs.lemmas.List.Sorted.{IsPermutation-trans}
use Rattle.race_parts.proofs.cells.cells_of.Goals as goal

pub returns : goal.returns
returns c = record {
  before = c.in_ok-made.made.items;
  keys = c.in_ok-made.ensures;
  permutation = IsPermutation-trans _ _ _ c.in_ok-cells.ensures c.in_ok-sort.ensures.permutation;
  sorted = c.in_ok-sort.ensures.sorted;
}
