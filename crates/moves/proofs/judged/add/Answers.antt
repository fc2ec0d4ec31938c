use Rattle.moves.proofs.JudgeLemmas.{add_made}
use Rattle.moves.proofs.judged.add.Goals as goal

pub returns-in_default-enabled-clause-judged : goal.returns-in_default-enabled-clause-judged
returns-in_default-enabled-clause-judged c =
    add_made c.args.indexed.now c.args.board.now c.args.rows.now c.args.name.now c.in-Some.schedule.now c.in-Some.ensures.some c.in-Some.ensures.trace c.args.event c.in_default-enabled.ensures.none
