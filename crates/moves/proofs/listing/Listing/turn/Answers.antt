use Rattle.std.proofs.Common.{◌≡◌, None, rules}
use Rattle.moves.specs.Rows.{row_of}
use Rattle.moves.proofs.TurnLemmas.{comes_turned, comes_fits}
use Rattle.moves.proofs.listing.Listing.turn.Goals as goal

pub returns-in-Ok-clause-ok : goal.returns-in-Ok-clause-ok
returns-in-Ok-clause-ok c =
    let none : row_of c.args.self.now c.args.name.now ≡ None = search rules in
    comes_turned c.args.self.now c.put.new.self c.args.name.now c.in-Comes.row c.args.step none c.in-Comes.is c.in-Ok.ensures.ok

pub returns-in-Ok-clause-back : goal.returns-in-Ok-clause-back
returns-in-Ok-clause-back c =
    let none : row_of c.args.self.now c.args.name.now ≡ None = search rules in
    comes_fits c.args.self.now c.put.new.self c.args.name.now c.in-Comes.row none c.in-Ok.ensures.ok
