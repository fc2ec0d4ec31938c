use Rattle.inverse_log.proofs.HeadLemmas.{directly_law}
use Rattle.inverse_log.proofs.headline.undo_directly_restores.Goals as goal

pub returns : goal.returns
returns c = directly_law
