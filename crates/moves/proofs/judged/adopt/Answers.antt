use Rattle.std.proofs.Common.{◌≡◌, true, rules}
use Rattle.std.specs.Option.{is_some}
use Rattle.moves.specs.Rows.{row_of}
use Rattle.moves.proofs.JudgeLemmas.{adopt_made, board_trace}
use Rattle.moves.proofs.judged.adopt.Goals as goal

pub returns-clause-judged : goal.returns-clause-judged
returns-clause-judged c =
    let there : is_some (row_of c.args.rows.now c.args.name.now) ≡ true = search rules in
    adopt_made c.args.indexed.now c.args.board.now c.args.rows.now c.args.name.now there c.requires c.args.proposal _ c.get.ensures.same

pub returns-clause-source : goal.returns-clause-source
returns-clause-source c = board_trace c.args.indexed.now c.args.board.now c.args.proposal _ c.get.ensures.same
