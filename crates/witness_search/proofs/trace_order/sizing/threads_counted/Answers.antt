use Rattle.std.proofs.Common.{◌≡◌, ℕ, ◌+◌, sym, subst, length, get_or, arith}
use Rattle.witness_search.specs.trace_order.Layout.{IsThreadCount}
use Rattle.witness_search.proofs.trace_order.SizeLemmas.{IsThreadCountUpTo, IsThreadCount-start, IsThreadCount-push, IsThreadCount-skip}
use Rattle.witness_search.proofs.trace_order.sizing.threads_counted.Goals as goal
use Rattle.witness_search.proofs.trace_order.sizing.threads_counted.Goals.{then-row-thread-gt0, else-row-thread-gt0}

pub loop-thread-init : goal.loop-thread-init
loop-thread-init c = IsThreadCount-start (λ t. get_or c.args.row.now t 0)

pub loop-thread-preserved : goal.loop-thread-preserved
loop-thread-preserved c =
    let n = c.loop-thread.thread in
    let k = c.loop-thread.count in
    let row : ℕ → ℕ = λ t. get_or c.args.row.now t 0 in
    elim c.if-row-thread-gt0.branch [
      | then-row-thread-gt0 w ↦
          subst (IsThreadCountUpTo row (n + 1)) (sym w.count-is) (IsThreadCount-push row n k c.loop-thread.invariant (omega (arith, w.if-row-thread-gt0.true)))
      | else-row-thread-gt0 w ↦
          subst (IsThreadCountUpTo row (n + 1)) (sym w.count-is) (IsThreadCount-skip row n k c.loop-thread.invariant (λ some. omega (arith, some, w.if-row-thread-gt0.false)))
    ]

pub returns : goal.returns
returns c =
    let end : c.loop-thread.thread ≡ length c.args.indexed.now.threads =
    omega (arith, c.loop-thread-test.false, c.loop-thread.auto.thread-end, c.threads-thread-end.ensures.len) in
    subst (λ (n : ℕ). IsThreadCount (λ t. get_or c.args.row.now t 0) n c.loop-thread.count) end c.loop-thread.invariant.0
