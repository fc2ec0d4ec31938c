use Rattle.std.proofs.Common.{◌≡◌, ◌∙◌, length, sym, ap, subst, arith}
use Rattle.std.proofs.lemmas.List.{length-replicate}
use Rattle.variable_uses.specs.Edges.{AreEdges}
use Rattle.variable_uses.specs.Ends.{is_end_of}
use Rattle.variable_uses.proofs.OrderLemmas.{AreEdges-begin, AreEdges-more}
use Rattle.variable_uses.proofs.order.edges_of.Goals as goal

pub loop-event-init : goal.loop-event-init
loop-event-init c = record {
  firsts_len = ap length c.in_ok-firsts.ensures ∙ length-replicate _ _ ∙ c.threads-threads.ensures.len;
  lasts_len = ap length c.in_ok-lasts.ensures ∙ length-replicate _ _ ∙ c.threads-threads.ensures.len;
  edges = AreEdges-begin c.args.indexed.now.events (is_end_of c.args.numbers.now c.args.flags.now) _ _ c.in_ok-firsts.firsts.items c.in_ok-lasts.lasts.items c.in_ok-firsts.ensures c.in_ok-lasts.ensures;
}

pub loop-event-preserved : goal.loop-event-preserved
loop-event-preserved c = record {
  firsts_len = c.note_edge.ensures.len ∙ c.loop-event.invariant.firsts_len;
  lasts_len = c.note_edge.ensures.lens ∙ c.loop-event.invariant.lasts_len;
  edges =
      AreEdges-more c.args.indexed.now.events (is_end_of c.args.numbers.now c.args.flags.now) c.loop-event.event c.loop-event.firsts.items c.loop-event.lasts.items c.loop-event.invariant.edges c.is_end-is_race.result
      c.note_edge.new.firsts.items c.note_edge.new.lasts.items (sym c.is_end-is_race.ensures) c.note_edge.ensures.noted;
}

pub returns : goal.returns
returns c =
    let whole : c.loop-event.event ≡ length c.args.indexed.now.events = omega (arith, c.loop-event-test.false, c.loop-event.auto.event-end, c.len-event-end.ensures.len) in
    record { edges = subst (λ n. AreEdges c.args.indexed.now.events (is_end_of c.args.numbers.now c.args.flags.now) n c.loop-event.firsts.items c.loop-event.lasts.items) whole c.loop-event.invariant.edges }
