use Rattle.std.proofs.Common.{◌≡◌, ℕ, ◌≤◌}
use Rattle.indexmap.specs.IndexMap.{index_map_len}
use Rattle.race_groups.specs.Basis.{total_of}
use Rattle.race_groups.specs.Rows.{Part, count_at, AreRows}
use Rattle.race_groups.specs.Turns.{turns_of}
use Rattle.race_groups.proofs.totals.add_each.Given as goal

abbrev pub invariant-loop-class : goal.invariant-loop-class
invariant-loop-class l =
    record {
      kept : AreRows l.rows;
      few : index_map_len l.rows ≤ l.limit;
      rows :
          (k : Part) (p q : ℕ) → p ≤ q → count_at k l.rows p q
          ≡ turns_of l.basis.every l.basis.from (total_of l.basis k p q) l.class;
    }
