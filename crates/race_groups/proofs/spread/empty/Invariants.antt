use Rattle.std.proofs.Common.{◌≡◌, ℕ, [], length}
use Rattle.race_groups.specs.Totals.{entries_at}
use Rattle.race_groups.proofs.spread.empty.Given as goal

abbrev pub invariant-loop-class : goal.invariant-loop-class
invariant-loop-class l =
    record {
      len : length l.spread.items ≡ l.class;
      none : (c : ℕ) → entries_at l.spread.items c ≡ [];
    }
