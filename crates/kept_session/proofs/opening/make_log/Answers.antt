use Rattle.std.proofs.Common.{ap, Err, arith}
use Rattle.kept_session.proofs.CatchingLemmas.{failed_write}
use Rattle.kept_session.proofs.opening.make_log.Goals as goal

pub returns-clause-unwritten : goal.returns-clause-unwritten
returns-clause-unwritten g c = λ is.
    let failed = c.in-Err.ensures.cause.failed (ap Err (failed_write c.in-Err.why (c.unwritten.ensures.write is) c.in-Err.ensures.not_shorter)) in
    omega (arith, failed, c.in_ok-bytes.ensures.sound)
