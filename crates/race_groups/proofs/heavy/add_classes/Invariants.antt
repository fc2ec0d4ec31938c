use Rattle.std.proofs.Common.{◌≡◌, ℕ, ◌+◌, ◌≤◌}
use Rattle.indexmap.specs.IndexMap.{index_map_len}
use Rattle.race_groups.specs.Counting.{flagged_sum}
use Rattle.race_groups.specs.Counts.{keeps}
use Rattle.race_groups.specs.Ends.{lower_of, upper_of}
use Rattle.race_groups.specs.Rows.{Part, count_at, AreRows}
use Rattle.race_groups.proofs.heavy.add_classes.Given as goal

abbrev pub invariant-loop-class : goal.invariant-loop-class
invariant-loop-class l =
    record {
      kept : AreRows l.rows;
      few : index_map_len l.rows ≤ l.limit;
      rows :
          (k : Part) (p q : ℕ) → p ≤ q → count_at k l.rows p q
          + flagged_sum l.basis.indexed.now.events (keeps l.basis.classes.now.lists.keys k) l.basis.classes.now.numbers.items l.basis.classes.now.infos.items l.thread (lower_of l.basis.indexed.now.events l.basis.forced.now k) p q l.flags l.class
          ≡ count_at k l.fn.rows p q
          + flagged_sum l.basis.indexed.now.events (keeps l.basis.classes.now.lists.keys k) l.basis.classes.now.numbers.items l.basis.classes.now.infos.items l.thread (upper_of l.basis.indexed.now.events k) p q l.flags l.class;
    }
