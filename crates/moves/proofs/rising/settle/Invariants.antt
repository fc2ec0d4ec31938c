use Rattle.std.proofs.Common.{◌≡◌, ◌+◌, ◌++◌, length}
use Rattle.moves.proofs.rising.settle.Given as goal

abbrev pub invariant-loop : goal.invariant-loop
invariant-loop l = record {
  same : l.older.entries ++ l.young.items ≡ l.initial.older.entries ++ l.initial.young.items;
  left : length l.young.items + l.counter ≡ l.end;
}
