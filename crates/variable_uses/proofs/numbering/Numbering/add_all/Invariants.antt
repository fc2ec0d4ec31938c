use Rattle.std.proofs.Common.{◌<◌, length, All}
use Rattle.variable_uses.specs.Numbers.{IsNumbered}
use Rattle.variable_uses.proofs.numbering.Numbering.add_all.Given as goal

abbrev pub invariant-loop-event : goal.invariant-loop-event
invariant-loop-event l =
    record {
      slots : All (λ k. k < length l.slots.items) l.keys;
      numbered : IsNumbered l.keys l.event l.event l.slots.items l.self;
    }
