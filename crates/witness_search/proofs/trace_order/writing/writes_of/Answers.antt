use Rattle.std.proofs.Common.{◌≡◌, ℕ, length, subst, arith}
use Rattle.witness_search.specs.trace_order.Tables.{AreWritesUpTo}
use Rattle.witness_search.proofs.trace_order.writing.writes_of.Goals as goal

pub returns : goal.returns
returns c =
    let r = c.args.indexed.now in
    let end : c.loop-event.event ≡ length r.events =
    omega (arith, c.loop-event-test.false, c.loop-event.auto.event-end, c.len-event-end.ensures.len) in
    subst (λ (n : ℕ). AreWritesUpTo r n c.loop-event.writes.items) end c.loop-event.invariant
