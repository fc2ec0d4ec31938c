use Rattle.std.proofs.Common.{ap, Err}
use Rattle.kept_session.proofs.opening.let_go.Goals as goal

pub returns-in-Err-clause-unwritten : goal.returns-in-Err-clause-unwritten
returns-in-Err-clause-unwritten g c = λ _. c.in-Err.ensures.cause.failed (ap Err c.in-Err.ensures.only)
