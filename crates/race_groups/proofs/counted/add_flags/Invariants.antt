use Rattle.std.proofs.Common.{◌≡◌, ℕ, ◌+◌, ◌≤◌, length, take, sum_by}
use Rattle.event_index.specs.Lookups.{events_of}
use Rattle.indexmap.specs.IndexMap.{index_map_len}
use Rattle.race_groups.specs.Counting.{AreFrontsAt, flagged_sum, unflagged_count}
use Rattle.race_groups.specs.Counts.{keeps}
use Rattle.race_groups.specs.Ends.{lower_of, upper_of}
use Rattle.race_groups.specs.Rows.{Part, count_at, AreRows}
use Rattle.race_groups.proofs.counted.add_flags.Given as goal

abbrev pub invariant-loop-at : goal.invariant-loop-at
invariant-loop-at l =
    record {
      kept : AreRows l.rows;
      few : index_map_len l.rows ≤ l.limit;
      fronts : AreFrontsAt l.basis.indexed.now.events (length l.basis.indexed.now.threads) (length l.basis.classes.now.infos.items) l.basis.classes.now.numbers.items l.thread l.basis.forced.now l.at l.fronts;
      rows :
          (k : Part) (p q : ℕ) → p ≤ q → count_at k l.rows p q
          + flagged_sum l.basis.indexed.now.events (keeps l.basis.classes.now.lists.keys k) l.basis.classes.now.numbers.items l.basis.classes.now.infos.items l.thread (lower_of l.basis.indexed.now.events l.basis.forced.now k) p q l.flags (length l.basis.classes.now.infos.items)
          + sum_by (unflagged_count l.basis.indexed.now.events (keeps l.basis.classes.now.lists.keys k) l.basis.classes.now.numbers.items l.basis.classes.now.infos.items l.thread (lower_of l.basis.indexed.now.events l.basis.forced.now k) p q l.flags) (take l.at (events_of l.basis.indexed.now.events l.thread))
          ≡ count_at k l.fn.rows p q
          + flagged_sum l.basis.indexed.now.events (keeps l.basis.classes.now.lists.keys k) l.basis.classes.now.numbers.items l.basis.classes.now.infos.items l.thread (upper_of l.basis.indexed.now.events k) p q l.flags (length l.basis.classes.now.infos.items)
          + sum_by (unflagged_count l.basis.indexed.now.events (keeps l.basis.classes.now.lists.keys k) l.basis.classes.now.numbers.items l.basis.classes.now.infos.items l.thread (upper_of l.basis.indexed.now.events k) p q l.flags) (take l.at (events_of l.basis.indexed.now.events l.thread));
    }
