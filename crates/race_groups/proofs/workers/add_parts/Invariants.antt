use Rattle.std.proofs.Common.{◌≤◌}
use Rattle.indexmap.specs.IndexMap.{index_map_len}
use Rattle.race_groups.specs.Basis.{AreJoined}
use Rattle.race_groups.specs.Rows.{AreRows}
use Rattle.race_groups.proofs.workers.add_parts.Given as goal

abbrev pub invariant-loop-worker : goal.invariant-loop-worker
invariant-loop-worker l =
    record {
      rows : AreRows l.all;
      kept : index_map_len l.all ≤ l.limit;
      joined : AreJoined l.basis l.worker l.all;
    }
