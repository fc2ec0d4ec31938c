use Rattle.std.proofs.Common.{◌≡◌, ◌*◌, ◌-◌, length, get_or, ◌<◌, None, IfSome}
use Rattle.must_order.specs.Joins.{AreJoins}
use Rattle.must_order.specs.Layout.{IsBegun, IsClosed}
use Rattle.must_order.specs.Sections.{IsOwed}
use Rattle.must_order.proofs.JoinLemmas.{IsLedRow}
use Rattle.must_order.proofs.RowLemmas.{total}
use Rattle.must_order.proofs.rows.close_row.Given as goal

abbrev pub invariant-loop-owed : goal.invariant-loop-owed
invariant-loop-owed l =
    record {
      len : length l.row.items ≡ length l.indexed.threads;
      owes : IfSome l.owed (IsOwed l.indexed.events l.event (λ t. get_or l.row.items t 0));
      earlier : IfSome l.owed (λ o. o.1 < l.event);
      closed : l.owed ≡ None → IsClosed l.indexed.events l.event (λ t. get_or l.row.items t 0);
      begun : IsBegun l.indexed.events l.event (λ t. get_or l.row.items t 0);
      joins : AreJoins l.indexed.events l.event l.joins.list.items l.joins.starts.items;
      led : IsLedRow l.indexed.events l.joins.list.items (get_or l.joins.starts.items l.event 0) l.event (λ t. get_or l.row.items t 0);
    }

abbrev pub decreases-loop-owed : goal.decreases-loop-owed
decreases-loop-owed l = length l.indexed.threads * length l.indexed.events - total l.row.items
