use Rattle.std.proofs.Common.{arith}
use Rattle.kept_session.proofs.LogLemmas.{legal_short}
use Rattle.kept_session.proofs.catching.line_behind.Goals as goal

pub overflow_add-result : goal.overflow_add-result
overflow_add-result c = let short = legal_short _ _ c.log_len.ensures.legal in omega (arith, short, c.log_len.ensures.len)
