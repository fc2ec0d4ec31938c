use Rattle.witness_search.proofs.trace_order.CandidateLemmas.{candidate_law}
use Rattle.witness_search.proofs.trace_order.laws.candidates_are_in_order.Goals as goal

pub returns : goal.returns
returns c = candidate_law
