use Rattle.std.proofs.Common.{◌≡◌, length}
use Rattle.variable_uses.specs.Ends.{AreNamedBefore}
use Rattle.variable_uses.proofs.ends.named_rows.Given as goal

abbrev pub invariant-loop-event : goal.invariant-loop-event
invariant-loop-event l =
    record {
      len : length l.flags.items ≡ l.rows;
      named : AreNamedBefore l.numbers l.named l.event l.flags.items;
    }
