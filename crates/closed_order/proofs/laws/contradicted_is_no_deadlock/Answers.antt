use Rattle.closed_order.proofs.KeptLemmas.{deadlock_law}
use Rattle.closed_order.proofs.laws.contradicted_is_no_deadlock.Goals as goal

pub returns : goal.returns
returns c = deadlock_law
