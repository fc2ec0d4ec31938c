use Rattle.std.proofs.Common.{◌≢◌, ◌∙◌, ap, length}
use Rattle.std.proofs.lemmas.Bool.{ne_eqb}
use Rattle.moves.proofs.JudgeLemmas.{back_made}
use Rattle.moves.proofs.judged.back.Goals as goal

pub returns-clause-judged : goal.returns-clause-judged
returns-clause-judged c =
    let some : length c.in-Some.schedule.now.events ≢ 0 = λ none. c.if-events-eq0.false (ap length c.events.ensures.same ∙ none) in
    back_made c.args.indexed.now c.args.board.now c.args.rows.now c.args.name.now c.in-Some.schedule.now c.in-Some.ensures.some c.in-Some.ensures.trace (ne_eqb (length c.in-Some.schedule.now.events) 0 some)
