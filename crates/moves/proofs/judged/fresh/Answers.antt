use Rattle.std.proofs.Common.{◌≡◌, None, rules}
use Rattle.moves.specs.Rows.{row_of}
use Rattle.moves.proofs.JudgeLemmas.{fresh_made}
use Rattle.moves.proofs.judged.fresh.Goals as goal

pub returns-clause-judged : goal.returns-clause-judged
returns-clause-judged c =
    let none : row_of c.args.rows.now c.args.name.now ≡ None = search rules in
    fresh_made c.args.indexed.now c.args.board.now c.args.rows.now c.args.name.now none
