use Rattle.std.proofs.Common.{◌≡◌, ◌+◌, ◌<◌, ◌++◌, length, vec_len}
use Rattle.workspace_lock.specs.Places.{mark_of}
use Rattle.workspace_lock.specs.Rows.{Gathers, marks_in, AllSeated, HasAll}
use Rattle.workspace_lock.proofs.seats.gather.Given as goal

abbrev pub invariant-loop-row : goal.invariant-loop-row
invariant-loop-row l = record {
  same : l.place.table_id ≡ l.initial.place.table_id;
  gathers : Gathers l.place.me;
  first : (0 < length l.place.me.0.marks) × (mark_of l.place.me.0 ≡ mark_of l.initial.place.me.0);
  rows : AllSeated l.lock.shared.table_id l.rows.items;
  count : length l.place.me.0.marks + length l.rows.items ≡ length l.initial.place.me.0.marks + length l.initial.rows.items;
  marks : HasAll (l.initial.place.me.0.marks ++ marks_in l.initial.rows.items) (l.place.me.0.marks ++ marks_in l.rows.items);
}

abbrev pub decreases-loop-row : goal.decreases-loop-row
decreases-loop-row l = vec_len l.rows
