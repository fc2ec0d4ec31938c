use Rattle.search_pool.proofs.PassLemmas.{names}
use Rattle.search_pool.proofs.line.tell_trace.Goals as goal

pub another-other-requires-clause-rule : goal.another-other-requires-clause-rule
another-other-requires-clause-rule g c = names _ _ _ c.requires.alone
