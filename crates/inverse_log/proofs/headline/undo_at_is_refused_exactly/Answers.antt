use Rattle.inverse_log.proofs.HeadLemmas.{at_exact_law}
use Rattle.inverse_log.proofs.headline.undo_at_is_refused_exactly.Goals as goal

pub returns : goal.returns
returns c = at_exact_law
