use Rattle.inverse_log.proofs.HeadLemmas.{longer_law}
use Rattle.inverse_log.proofs.headline.longer_boards_accept_the_same.Goals as goal

pub returns : goal.returns
returns c = longer_law
