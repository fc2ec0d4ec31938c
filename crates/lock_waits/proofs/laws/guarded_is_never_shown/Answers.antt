use Rattle.lock_waits.proofs.ApartLemmas.{guarded_law}
use Rattle.lock_waits.proofs.laws.guarded_is_never_shown.Goals as goal

pub returns : goal.returns
returns c = guarded_law
