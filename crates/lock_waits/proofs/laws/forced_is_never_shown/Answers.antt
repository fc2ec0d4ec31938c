use Rattle.lock_waits.proofs.ApartLemmas.{forced_law}
use Rattle.lock_waits.proofs.laws.forced_is_never_shown.Goals as goal

pub returns : goal.returns
returns c = forced_law
