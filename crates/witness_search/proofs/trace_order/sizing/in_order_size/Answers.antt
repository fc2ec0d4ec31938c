use Rattle.std.proofs.Common.{ℕ, List, get_or, length, subst}
use Rattle.witness_search.specs.trace_order.Layout.{IsListLength, IsThreadCount}
use Rattle.witness_search.proofs.trace_order.SizeLemmas.{IsSizeInOrder-counted}
use Rattle.witness_search.proofs.trace_order.sizing.in_order_size.Goals as goal

pub returns-clause-size : goal.returns-clause-size
returns-clause-size c =
    let r = c.args.indexed.now in
    IsSizeInOrder-counted r c.joined_in_order.ensures.well_formed c.args.first c.args.second (λ t. get_or c.in_ok-row.row.items t 0) c.in_ok-row.ensures.row c.in_ok-row.ensures.within
    c.events_counted.result c.threads_counted.result
    (subst (λ (xs : List ℕ). IsListLength r.events (λ t. get_or xs t 0) c.events_counted.result) c.as_slice.ensures.value c.events_counted.ensures)
    (subst (λ (xs : List ℕ). IsThreadCount (λ t. get_or xs t 0) (length r.threads) c.threads_counted.result) c.as_slice-2.ensures.value c.threads_counted.ensures)
