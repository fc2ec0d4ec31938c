use Rattle.witness_search.proofs.trace_order.NeededLemmas.{closed_law}
use Rattle.witness_search.proofs.trace_order.laws.rising_reorderings_are_closed.Goals as goal

pub returns : goal.returns
returns c = closed_law
