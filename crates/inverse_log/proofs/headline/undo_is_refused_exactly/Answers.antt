use Rattle.inverse_log.proofs.HeadLemmas.{exact_law}
use Rattle.inverse_log.proofs.headline.undo_is_refused_exactly.Goals as goal

pub returns : goal.returns
returns c = exact_law
