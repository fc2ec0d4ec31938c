use Rattle.search_pool.proofs.PassLemmas.{takes}
use Rattle.search_pool.proofs.line.next_answer.Goals as goal

pub recv_as-requires-clause-rule : goal.recv_as-requires-clause-rule
recv_as-requires-clause-rule g c = (takes _ _ c.requires.knows.0 c.requires.knows.1, λ answers views h at. tt)
