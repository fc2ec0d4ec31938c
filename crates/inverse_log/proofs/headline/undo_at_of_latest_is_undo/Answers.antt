use Rattle.inverse_log.proofs.HeadLemmas.{at_latest_law}
use Rattle.inverse_log.proofs.headline.undo_at_of_latest_is_undo.Goals as goal

pub returns : goal.returns
returns c = at_latest_law
