use Rattle.std.proofs.Common.{refl}
use Rattle.std.proofs.lemmas.Bool.{false≢true}
use Rattle.lock_waits.proofs.requiring.is_foreign.Goals as goal

pub returns-in-None : goal.returns-in-None
returns-in-None c = (λ so. absurd (false≢true so), λ (e, has, f). absurd (c.in-None.ensures.none refl f.lock f.acquires))
