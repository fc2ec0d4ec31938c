use Rattle.std.proofs.Common.{ℕ, get_or, sym, ◌∙◌}
use Rattle.witness_search.proofs.trace_order.EnableLemmas.{refused_unforked, refused_free}
use Rattle.witness_search.proofs.trace_order.SearchLemmas.{at_read}
use Rattle.witness_search.proofs.trace_order.enabling.may_come.Goals as goal

pub returns-then-not-is_forked : goal.returns-then-not-is_forked
returns-then-not-is_forked c =
    λ P at.
    let T = c.args.indexed.now.events in
    let start : ℕ → ℕ = λ t. get_or c.args.aim.now.start.items t 0 in
    refused_unforked T (λ t. get_or c.args.reached.now.row.items t 0) P at.correct at.counts c.len-len.ensures.disciplined c.args.event c.args.thread c.requires.thread c.requires.next
    (sym c.if-not-is_forked.true ∙ c.is_forked.ensures P start _ (at_read T start c.args.reached.now.row.items c.as_slice.result.now _ P c.as_slice.ensures.value at))

pub returns : goal.returns
returns c =
    λ P at.
    let T = c.args.indexed.now.events in
    let start : ℕ → ℕ = λ t. get_or c.args.aim.now.start.items t 0 in
    refused_free T (λ t. get_or c.args.reached.now.row.items t 0) P at.correct at.counts c.len-len.ensures.disciplined c.args.event c.args.thread c.requires.thread c.requires.next
    c.is_free.result
    (sym c.if-not-is_forked.false ∙ c.is_forked.ensures P start _ (at_read T start c.args.reached.now.row.items c.as_slice.result.now _ P c.as_slice.ensures.value at))
    (c.is_free.ensures P at)
