use Rattle.std.proofs.Common.{ap, Err}
use Rattle.kept_session.proofs.opening.take_first.Goals as goal

pub returns-in-Err-clause-unread : goal.returns-in-Err-clause-unread
returns-in-Err-clause-unread g c = λ is. c.in-Err.ensures.cause.failed (ap Err (c.unread.ensures.read is))
