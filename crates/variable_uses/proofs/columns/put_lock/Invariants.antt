use Rattle.std.proofs.Common.{◌≡◌, ℕ, ◌<◌, count_by, length, slice_index, take}
use Rattle.variable_uses.specs.Columns.{IsMoving}
use Rattle.variable_uses.specs.Numbers.{has_number}
use Rattle.variable_uses.proofs.columns.put_lock.Given as goal

abbrev pub invariant-loop-at : goal.invariant-loop-at
invariant-loop-at l =
    record {
      len : length l.counts ≡ length l.fn.counts;
      counts : (k : ℕ) → k < length l.counts → slice_index l.counts k ≡ count_by (has_number l.numbers k) (take l.at l.list);
    }

abbrev pub invariant-loop-at-2 : goal.invariant-loop-at-2
invariant-loop-at-2 l =
    record {
      len : length l.counts ≡ length l.fn.counts;
      columns_len : length l.columns.items ≡ length l.fn.columns.items;
      moving : IsMoving l.numbers l.list (take l.at l.list) l.lock l.counts l.fn.columns.items l.columns.items;
    }
