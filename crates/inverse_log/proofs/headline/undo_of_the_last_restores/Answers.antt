use Rattle.inverse_log.proofs.LastLemmas.{last_law}
use Rattle.inverse_log.proofs.headline.undo_of_the_last_restores.Goals as goal

pub returns : goal.returns
returns c = last_law
