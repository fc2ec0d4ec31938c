use Rattle.std.proofs.Common.{◌≡◌, length}
use Rattle.variable_uses.specs.Edges.{AreEdges}
use Rattle.variable_uses.specs.Ends.{is_end_of}
use Rattle.variable_uses.proofs.order.edges_of.Given as goal

abbrev pub invariant-loop-event : goal.invariant-loop-event
invariant-loop-event l =
    record {
      firsts_len : length l.firsts.items ≡ length l.indexed.threads;
      lasts_len : length l.lasts.items ≡ length l.indexed.threads;
      edges : AreEdges l.indexed.events (is_end_of l.numbers l.flags) l.event l.firsts.items l.lasts.items;
    }
