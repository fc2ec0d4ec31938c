use Rattle.std.proofs.Common.{get_or}
use Rattle.witness_search.proofs.trace_order.EnableLemmas.{forked_some}
use Rattle.witness_search.proofs.trace_order.enabling.is_forked.Goals as goal

pub returns-in-Some : goal.returns-in-Some
returns-in-Some c =
    λ P start last at.
    forked_some c.args.indexed.now.events (λ t. get_or c.args.row.now t 0) P at.correct at.counts c.args.thread c.in-Some.fork c.is_counted.result c.in-Some.ensures.fork
    c.in-Some.ensures.within c.is_counted.ensures
