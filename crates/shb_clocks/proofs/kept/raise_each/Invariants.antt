use Rattle.std.proofs.Common.{◌≡◌, ℕ, ◌+◌, ◌<◌, ◌≤◌, max, length, get_or}
use Rattle.shb_clocks.proofs.kept.raise_each.Given as goal

abbrev pub invariant-loop-thread : goal.invariant-loop-thread
invariant-loop-thread l =
    record {
      len : length l.row ≡ length l.fn.row;
      raised : (t : ℕ) → t < l.thread → get_or l.row t 0 ≡ max (get_or l.fn.row t 0) (get_or l.wholes t 0 + get_or l.rises t 0);
      rest : (t : ℕ) → l.thread ≤ t → get_or l.row t 0 ≡ get_or l.fn.row t 0;
    }
