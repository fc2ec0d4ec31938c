use Rattle.witness_search.proofs.trace_order.NeededLemmas.{sound_law}
use Rattle.witness_search.proofs.trace_order.laws.in_order_is_sound.Goals as goal

pub returns : goal.returns
returns c = sound_law
