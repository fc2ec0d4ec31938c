use Rattle.closed_order.proofs.KeptLemmas.{kept_law}
use Rattle.closed_order.proofs.laws.precedes_is_kept.Goals as goal

pub returns : goal.returns
returns c = kept_law
