use Rattle.std.proofs.Common.{◌≡◌, ◌≤◌, length}
use Rattle.shb_clocks.specs.SharedRows.{len_of, rows_in}
use Rattle.must_order.specs.Joins.{AreJoins}
use Rattle.must_order.specs.Layout.{AreCounts}
use Rattle.must_order.specs.Sections.{AreSections}
use Rattle.must_order.proofs.rows.Rows.add_by.Given as goal

abbrev pub invariant-loop-event : goal.invariant-loop-event
invariant-loop-event l =
    record {
      width : l.self.counts.width ≡ length l.indexed.threads;
      len : len_of l.self.counts ≡ l.event;
      few : rows_in l.self.counts ≤ l.event;
      counts : AreCounts l.indexed.events (length l.indexed.threads) l.self.counts;
      row : length l.row.items ≡ length l.indexed.threads;
      spare : length l.spare.items ≡ length l.indexed.threads;
      known : AreSections l.indexed l.event l.self.sections;
      joins : AreJoins l.indexed.events l.event l.self.joins.list.items l.self.joins.starts.items;
    }
