use Rattle.std.proofs.Common.{◌≡◌, ℕ, ◌+◌, List, length, get_or, refl, sym, subst, arith, ap, ◌∙◌}
use Rattle.witness_search.specs.trace_order.Tables.{AreReachesUpTo}
use Rattle.witness_search.proofs.trace_order.ReachLemmas.{AreReaches-start, AreReaches-push}
use Rattle.witness_search.proofs.trace_order.reaching.reaches_of.Goals as goal

pub loop-event-init : goal.loop-event-init
loop-event-init c = AreReaches-start c.args.indexed.now.events c.in_ok-reach.reach.items (ap length c.in_ok-reach.ensures.items)

pub loop-event-preserved : goal.loop-event-preserved
loop-event-preserved c =
    subst (AreReachesUpTo c.args.indexed.now.events (c.loop-event.event + 1)) (sym c.in_ok-push.ensures.items)
    (AreReaches-push c.args.indexed.now.events c.loop-event.event c.reach_at-next.result c.loop-event.reach.items c.loop-event.invariant c.reach_at-next.ensures)

pub returns : goal.returns
returns c =
    let end : c.loop-event.event ≡ length c.args.indexed.now.events =
    omega (arith, c.loop-event-test.false, c.loop-event.auto.event-end, c.len-event-end.ensures.len) in
    subst (λ (n : ℕ). AreReachesUpTo c.args.indexed.now.events n c.loop-event.reach.items) end c.loop-event.invariant
