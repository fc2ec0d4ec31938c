use Rattle.witness_search.proofs.trace_order.NeededLemmas.{least_law}
use Rattle.witness_search.proofs.trace_order.laws.in_order_is_least.Goals as goal

pub returns : goal.returns
returns c = least_law
