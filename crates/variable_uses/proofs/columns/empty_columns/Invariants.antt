use Rattle.std.proofs.Common.{◌≡◌, length}
use Rattle.variable_uses.specs.Columns.{AreEmptyColumns}
use Rattle.variable_uses.proofs.columns.empty_columns.Given as goal

abbrev pub invariant-loop-row : goal.invariant-loop-row
invariant-loop-row l =
    record {
      len : length l.columns.items ≡ l._row;
      empty : AreEmptyColumns l.columns.items;
    }
