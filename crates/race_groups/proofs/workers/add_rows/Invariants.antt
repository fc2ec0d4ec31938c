use Rattle.std.proofs.Common.{◌≡◌, ℕ, ◌+◌, ◌≤◌, take}
use Rattle.indexmap.specs.IndexMap.{index_map_len}
use Rattle.race_groups.specs.Rows.{Part, AreRows, count_at, entries_count}
use Rattle.race_groups.proofs.workers.add_rows.Given as goal

abbrev pub invariant-loop-at : goal.invariant-loop-at
invariant-loop-at l =
    record {
      rows : AreRows l.all;
      kept : index_map_len l.all ≤ l.limit;
      counts : (k : Part) (p q : ℕ) → p ≤ q → count_at k l.all p q ≡ count_at k l.fn.all p q + entries_count k (take l.at l.part.entries) p q;
    }
