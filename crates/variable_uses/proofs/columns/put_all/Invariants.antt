use Rattle.std.proofs.Common.{◌≡◌, length}
use Rattle.variable_uses.specs.Columns.{AreColumnsBefore, AreNone}
use Rattle.variable_uses.proofs.columns.put_all.Given as goal

abbrev pub invariant-loop-lock : goal.invariant-loop-lock
invariant-loop-lock l =
    record {
      len : length l.columns.items ≡ length l.fn.columns.items;
      counts_len : length l.counts ≡ length l.fn.counts;
      none : AreNone l.counts;
      columns : AreColumnsBefore l.lists l.numbers l.lock l.columns.items;
    }
