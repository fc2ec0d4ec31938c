use Rattle.std.proofs.Common.{◌≡◌, length}
use Rattle.variable_uses.specs.Numbers.{AreCountsBefore}
use Rattle.variable_uses.proofs.counting.counts_of.Given as goal

abbrev pub invariant-loop-event : goal.invariant-loop-event
invariant-loop-event l =
    record {
      len : length l.counts.items ≡ l.rows;
      counts : AreCountsBefore l.numbers l.event l.counts.items;
    }
