use Rattle.std.proofs.Common.{get_or, ◌∙◌, sym}
use Rattle.witness_search.proofs.trace_order.EnableLemmas.{not_ready, ready_here}
use Rattle.witness_search.proofs.trace_order.enabling.is_ready.Goals as goal

pub returns-then-place-row : goal.returns-then-place-row
returns-then-place-row c =
    λ P start last at.
    not_ready c.args.indexed.now.events (λ t. get_or c.args.row.now t 0) P at.correct at.counts c.args.event c.event-thread.result c.event-thread.ensures.found
    (λ same. c.if-place-row.true (c.place.ensures.place ∙ same))

pub returns : goal.returns
returns c =
    λ P start last at.
    ready_here c.args.indexed.now.events (λ t. get_or c.args.row.now t 0) P at.correct at.counts c.args.event c.event-thread.result c.is_forked.result
    c.event-thread.ensures.found (sym c.place.ensures.place ∙ c.if-place-row.false) (c.is_forked.ensures P start last at)
