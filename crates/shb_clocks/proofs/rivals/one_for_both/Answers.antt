use Rattle.std.proofs.Common.{arith, sym}
use Rattle.shb_clocks.proofs.AheadLemmas.{StandsFor-earlier}
use Rattle.shb_clocks.proofs.rivals.one_for_both.Goals as goal

pub returns-then-first-second : goal.returns-then-first-second
returns-then-first-second c =
    record {
      within = c.requires.first;
      first = λ a kept. kept;
      second = StandsFor-earlier _ _ _ _ _ c.event.ensures.found c.event-2.ensures.found c.if-event.false c.if-first-second.true;
    }

pub returns-else-first-second : goal.returns-else-first-second
returns-else-first-second c =
    record {
      within = c.requires.second;
      first = StandsFor-earlier _ _ _ _ _ c.event-2.ensures.found c.event.ensures.found (sym c.if-event.false)
          (omega (arith, c.if-first-second.false));
      second = λ a kept. kept;
    }
