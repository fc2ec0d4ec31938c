use Rattle.closed_order.proofs.KeptLemmas.{shown_law}
use Rattle.closed_order.proofs.laws.contradicted_is_never_shown.Goals as goal

pub returns : goal.returns
returns c = shown_law
