use Rattle.std.specs.Prelude.{◌≡◌}
use Rattle.calls.specs.Requests.{AreSlices}
use Rattle.calls.specs.Searches.{ProposesSlices}
use Rattle.calls.proofs.searching.propose_all.Given as goal

-- what is pending are slices of the pairs, and such were proposed
abbrev pub invariant-loop : goal.invariant-loop
invariant-loop g l =
    record {
      trace : l.pool.trace ≡ l.fn.pool.trace;
      pending : AreSlices l.pairs l.pool.pending;
      proposes : ProposesSlices l.fn.pool.trace.events l.pairs l.fn.seat l.seat;
      site : l.seat.site ≡ l.fn.seat.site;
      number : l.seat.number ≡ l.fn.seat.number;
    }
