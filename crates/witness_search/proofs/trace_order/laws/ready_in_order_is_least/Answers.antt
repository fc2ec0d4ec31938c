use Rattle.witness_search.proofs.trace_order.NeededLemmas.{ready_law}
use Rattle.witness_search.proofs.trace_order.laws.ready_in_order_is_least.Goals as goal

pub returns : goal.returns
returns c = ready_law
