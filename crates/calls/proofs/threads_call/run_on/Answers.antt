use Rattle.std.proofs.Common.{refl}
use Rattle.calls.proofs.ThreadsLemmas.{err_is, not_the_trace}
use Rattle.calls.proofs.threads_call.run_on.Goals as goal

pub returns-in-Err-clause-device : goal.returns-in-Err-clause-device
returns-in-Err-clause-device g c e = absurd (not_the_trace _ c.in-Err.fault c.in-Err.ensures.fault (err_is _ _ _ refl e))
