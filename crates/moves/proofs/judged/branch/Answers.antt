use Rattle.std.proofs.Common.{◌≡◌, ◌≤◌, None, ap, length, rules, arith}
use Rattle.moves.specs.Rows.{row_of}
use Rattle.moves.proofs.JudgeLemmas.{branch_made}
use Rattle.moves.proofs.judged.branch.Goals as goal

pub returns-clause-judged : goal.returns-clause-judged
returns-clause-judged c =
    let none : row_of c.args.rows.now c.args.to.now ≡ None = search rules in
    let same : length c.events.result.now ≡ length c.in-Some.source.now.events = ap length c.events.ensures.same in
    let fits : c.args.len ≤ length c.in-Some.source.now.events = omega (arith, same, c.if-len-events.false) in
    branch_made c.args.indexed.now c.args.board.now c.args.rows.now c.args.name.now c.in-Some.source.now c.in-Some.ensures.some c.in-Some.ensures.trace c.args.len c.args.to.now none fits
