use Rattle.search_pool.proofs.PassLemmas.{sends}
use Rattle.search_pool.proofs.line.give_answer.Goals as goal

pub send_as-requires-clause-rule : goal.send_as-requires-clause-rule
send_as-requires-clause-rule g c = (sends _ _ _ _ c.requires.trace, λ answers views h at. tt)
