use Rattle.std.proofs.Common.{sym, subst, All}
use Rattle.std.proofs.lemmas.List.Elements.{All-push}
use Rattle.moves.specs.declared.board.Proposal.{Proposal}
use Rattle.moves.specs.Boards.{IsShown}
use Rattle.moves.proofs.board.Board.push.Goals as goal

pub invariant_of-self : goal.invariant_of-self
invariant_of-self c =
    let p : Proposal = record { first = c.args.first; second = c.args.second; schedule = c.args.schedule } in
    subst (All IsShown) (sym c.in_default.ensures.items) (All-push IsShown c.self.inside.proposals.items p c.self.invariant c.requires)
