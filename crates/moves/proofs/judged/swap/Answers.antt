use Rattle.moves.proofs.JudgeLemmas.{swap_made}
use Rattle.moves.proofs.judged.swap.Goals as goal

pub returns-in_default-exchangeable-clause-judged : goal.returns-in_default-exchangeable-clause-judged
returns-in_default-exchangeable-clause-judged c =
    swap_made c.args.indexed.now c.args.board.now c.args.rows.now c.args.name.now c.in-Some.schedule.now c.in-Some.ensures.some c.in-Some.ensures.trace c.args.at c.in_default-exchangeable.ensures.none
