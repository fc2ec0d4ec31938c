use Rattle.std.proofs.Common.{◌≡◌, ℕ, ◌+◌, ◌<◌, length, get_or}
use Rattle.shb_clocks.proofs.kept.put_rises.Given as goal

abbrev pub invariant-loop-thread : goal.invariant-loop-thread
invariant-loop-thread l =
    record {
      len : length l.rises ≡ length l.fn.rises;
      sums : (t : ℕ) → t < l.thread → get_or l.wholes t 0 + get_or l.rises t 0 ≡ get_or l.row t 0;
    }
