use Rattle.std.proofs.Common.{◌≡◌, ℕ, ◌<◌, ◌≤◌, length, get_or}
use Rattle.race_groups.specs.least_pairs.Joining.{IsJoined}
use Rattle.race_groups.specs.declared.least_pairs.least.Least.{Least}
use Rattle.race_groups.proofs.least_pairs.sharing.join_all.Given as goal

abbrev pub invariant-loop-at : goal.invariant-loop-at
invariant-loop-at l =
    record {
      len : length l.all ≡ length l.fn.all;
      done : (k : ℕ) (d : Least) → k < l.at → IsJoined l.most (get_or l.part k d) (get_or l.fn.all k d) (get_or l.all k d);
      left : (k : ℕ) (d : Least) → l.at ≤ k → get_or l.all k d ≡ get_or l.fn.all k d;
    }
