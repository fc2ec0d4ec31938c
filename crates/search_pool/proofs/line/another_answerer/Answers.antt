use Rattle.search_pool.proofs.PassLemmas.{forks}
use Rattle.search_pool.proofs.line.another_answerer.Goals as goal

pub another-requires-clause-rule : goal.another-requires-clause-rule
another-requires-clause-rule c = forks _ _ c.args.indexed.now c.requires.trace
