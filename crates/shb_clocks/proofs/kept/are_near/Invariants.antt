use Rattle.std.proofs.Common.{ℕ, ◌-◌, ◌<◌, ◌≤◌, get_or}
use Rattle.shb_clocks.proofs.kept.are_near.Given as goal

abbrev pub invariant-loop-thread : goal.invariant-loop-thread
invariant-loop-thread l =
    record {
      less : (t : ℕ) → t < l.thread → get_or l.wholes t 0 - get_or l.row t 0 ≤ l.less;
      more : (t : ℕ) → t < l.thread → get_or l.row t 0 - get_or l.wholes t 0 ≤ l.more;
    }
