use Rattle.std.proofs.Common.{◌≡◌, ℕ, length, subst, arith}
use Rattle.witness_search.specs.trace_order.Acquires.{AreTakenUpTo}
use Rattle.witness_search.proofs.trace_order.LaneLemmas.{AreTaken-end}
use Rattle.witness_search.proofs.trace_order.acquires.lanes_of.Goals as goal

pub returns : goal.returns
returns c =
    let r = c.args.indexed.now in
    let end : c.loop-thread.thread ≡ length r.threads =
    omega (arith, c.loop-thread-test.false, c.loop-thread.auto.thread-end, c.threads-thread-end.ensures.len) in
    AreTaken-end r c.threads-thread-end.ensures.well_formed c.loop-thread.by_lock.items
    (subst (λ (n : ℕ). AreTakenUpTo r n 0 c.loop-thread.by_lock.items) end c.loop-thread.invariant)
