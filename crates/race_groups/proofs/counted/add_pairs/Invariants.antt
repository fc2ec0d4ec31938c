use Rattle.std.proofs.Common.{◌≤◌}
use Rattle.indexmap.specs.IndexMap.{index_map_len}
use Rattle.race_groups.specs.Basis.{AreInTurn}
use Rattle.race_groups.specs.Rows.{AreRows}
use Rattle.race_groups.proofs.counted.add_pairs.Given as goal

abbrev pub invariant-loop-thread : goal.invariant-loop-thread
invariant-loop-thread l =
    record {
      rows : AreRows l.rows;
      kept : index_map_len l.rows ≤ l.limit;
      counts : AreInTurn l.basis l.basis.from l.thread l.rows;
    }
