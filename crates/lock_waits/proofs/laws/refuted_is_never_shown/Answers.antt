use Rattle.lock_waits.proofs.RequiredLemmas.{refuted_law}
use Rattle.lock_waits.proofs.laws.refuted_is_never_shown.Goals as goal

pub returns : goal.returns
returns c = refuted_law
