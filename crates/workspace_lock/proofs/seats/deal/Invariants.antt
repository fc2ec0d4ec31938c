use Rattle.std.proofs.Common.{◌≡◌, vec_capacity}
use Rattle.workspace_lock.specs.Seating.{fresh_rows, site_at}
use Rattle.workspace_lock.specs.Rows.{dealt}
use Rattle.workspace_lock.proofs.seats.deal.Given as goal

abbrev pub invariant-loop-i : goal.invariant-loop-i
invariant-loop-i l = record {
  same : l.place.table_id ≡ l.initial.place.table_id;
  place : l.place.me ≡ dealt l.hall.value.lock.shared.key.bench.value l.clients l.i;
  rows : l.rows.items ≡ fresh_rows (site_at l.hall.value.lock.shared.table_id l.hall.value.lock.shared.key.bench.value l.clients) 1 l.i;
  room : vec_capacity l.rows ≡ vec_capacity l.initial.rows;
}
