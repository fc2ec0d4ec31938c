use Rattle.std.proofs.Common.{◌≡◌, length}
use Rattle.variable_uses.specs.Edges.{AreSidesBefore}
use Rattle.variable_uses.proofs.order.sides_of.Given as goal

abbrev pub invariant-loop-event : goal.invariant-loop-event
invariant-loop-event l =
    record {
      len : length l.sides.items ≡ l.rows;
      sides : AreSidesBefore l.must.events l.numbers l.event l.edges.firsts.items l.edges.lasts.items l.sides.items;
    }
