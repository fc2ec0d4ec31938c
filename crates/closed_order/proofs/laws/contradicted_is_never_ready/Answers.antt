use Rattle.closed_order.proofs.KeptLemmas.{ready_law}
use Rattle.closed_order.proofs.laws.contradicted_is_never_ready.Goals as goal

pub returns : goal.returns
returns c = ready_law
