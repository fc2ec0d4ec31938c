use Rattle.std.proofs.Common.{◌≡◌}
use Rattle.client_scripts.proofs.SeatLemmas.{IsSeated}
use Rattle.client_scripts.proofs.seats.run_seat.Given as goal

-- the calls so far were made
abbrev pub invariant-loop-at : goal.invariant-loop-at
invariant-loop-at g l = record {
  seated : IsSeated l.indexed l.script l.at l.fn.seat l.fn.out.items l.seat l.out.items;
  site : l.seat.site ≡ l.fn.seat.site;
  number : l.seat.number ≡ l.fn.seat.number;
}
