use Rattle.std.proofs.Common.{◌≡◌, length, get_or}
use Rattle.lock_waits.specs.Gathering.{IsGathering, none_visited}
use Rattle.lock_waits.proofs.requiring.add_bases.Given as goal

abbrev pub invariant-loop-at : goal.invariant-loop-at
invariant-loop-at l =
    record {
      len : length l.row.items ≡ length l.indexed.threads;
      gathering : IsGathering l.indexed.events l.requests l.at (λ t. get_or l.row.items t 0) none_visited;
    }
