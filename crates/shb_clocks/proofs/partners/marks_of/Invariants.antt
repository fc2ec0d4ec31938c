use Rattle.std.proofs.Common.{◌-◌}
use Rattle.shb_clocks.specs.Partners.{AreAhead, AreMarks}
use Rattle.shb_clocks.proofs.partners.marks_of.Given as goal

abbrev pub invariant-loop-done : goal.invariant-loop-done
invariant-loop-done l =
    record {
      ahead : AreAhead l.indexed (l.len - l.done) l.ahead;
      marks : AreMarks l.indexed.events (l.len - l.done) l.marks.items;
    }
