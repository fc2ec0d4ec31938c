use Rattle.std.specs.Prelude.{◌≡◌, All}
use Rattle.std.specs.Vec.Iter.{into_iter_items}
use Rattle.calls.proofs.ToldLemmas.{Putting}
use Rattle.calls.proofs.seating.give_all.Given as goal

-- what has come back so far
abbrev pub invariant-loop-seat : goal.invariant-loop-seat
invariant-loop-seat l = record {
  theirs : All (λ t. t.0.site ≡ l.seats.site) (into_iter_items l.seat-iterator);
  site : l.seats.site ≡ l.fn.seats.site;
  put : Putting l.fn.out.items l.fn.seats.rows l.fn.told.items l.outcome l.out.items l.seats.rows (into_iter_items l.seat-iterator);
}
