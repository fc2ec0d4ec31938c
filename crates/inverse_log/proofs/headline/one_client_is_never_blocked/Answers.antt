use Rattle.inverse_log.proofs.HeadLemmas.{alone_law}
use Rattle.inverse_log.proofs.headline.one_client_is_never_blocked.Goals as goal

pub returns : goal.returns
returns c = alone_law
