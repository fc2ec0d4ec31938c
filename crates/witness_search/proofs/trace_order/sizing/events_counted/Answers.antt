use Rattle.std.proofs.Common.{◌≡◌, ℕ, ◌+◌, sym, subst, length, get_or, arith}
use Rattle.witness_search.specs.trace_order.Layout.{IsListLength}
use Rattle.witness_search.proofs.trace_order.SumLemmas.{sum_to, sum_to-start, sum_to-next, sum_to-bound, IsListLength-sum}
use Rattle.witness_search.proofs.trace_order.sizing.events_counted.Goals as goal

pub loop-thread-init : goal.loop-thread-init
loop-thread-init c = sym (sum_to-start (λ t. get_or c.args.row.now t 0))

pub overflow_add-count : goal.overflow_add-count
overflow_add-count c =
    let row : ℕ → ℕ = λ t. get_or c.args.row.now t 0 in
    let t = c.loop-thread.thread in
    let low = c.loop-thread-test.true in
    let bound = sum_to-bound c.args.indexed.now c.threads-thread-end.ensures.well_formed row c.requires.within (t + 1) (omega (arith, low, c.threads-thread-end.ensures.len)) in
    omega (arith, c.loop-thread.invariant, sum_to-next row t, bound, c.threads-thread-end.ensures.well_formed.events)

pub loop-thread-preserved : goal.loop-thread-preserved
loop-thread-preserved c =
    let row : ℕ → ℕ = λ t. get_or c.args.row.now t 0 in
    let t = c.loop-thread.thread in
    omega (arith, c.loop-thread.invariant, sum_to-next row t)

pub returns : goal.returns
returns c =
    let r = c.args.indexed.now in
    let row : ℕ → ℕ = λ t. get_or c.args.row.now t 0 in
    let end : c.loop-thread.thread ≡ length r.threads =
    omega (arith, c.loop-thread-test.false, c.loop-thread.auto.thread-end, c.threads-thread-end.ensures.len) in
    let is : sum_to row (length r.threads) ≡ c.loop-thread.count = sym (subst (λ (n : ℕ). c.loop-thread.count ≡ sum_to row n) end c.loop-thread.invariant) in
    subst (IsListLength r.events row) is (IsListLength-sum r c.threads-thread-end.ensures.well_formed row c.requires.within)
