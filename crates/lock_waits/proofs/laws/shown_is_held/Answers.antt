use Rattle.lock_waits.proofs.HeldLemmas.{held_law}
use Rattle.lock_waits.proofs.laws.shown_is_held.Goals as goal

pub returns : goal.returns
returns c = held_law
