use Rattle.std.proofs.Common.{◌≡◌, ◌<◌, List, Some, length, slice_get, refl, sym, subst}
use Rattle.std.proofs.lemmas.List.Elements.{All-get_or}
use Rattle.std.proofs.lemmas.Option.{slice_get_read}
use Rattle.moves.specs.declared.board.Proposal.{Proposal}
use Rattle.moves.specs.Boards.{IsShown}
use Rattle.moves.proofs.board.Board.get.Goals as goal

pub returns-clause-same : goal.returns-clause-same
returns-clause-same c =
    let items = c.self.inside.proposals.items in
    let within : c.args.at < length items = subst (λ (B : List Proposal). c.args.at < length B) (sym c.self.view_is) c.requires in
    subst (λ (B : List Proposal). slice_get B c.args.at ≡ Some c.index-proposal.result.now) c.self.view_is (slice_get_read items (length items) c.args.at c.index-proposal.result.now refl within c.index-proposal.ensures)

pub returns-clause-shows : goal.returns-clause-shows
returns-clause-shows c =
    let items = c.self.inside.proposals.items in
    let within : c.args.at < length items = subst (λ (B : List Proposal). c.args.at < length B) (sym c.self.view_is) c.requires in
    subst IsShown (sym c.index-proposal.ensures) (All-get_or IsShown items c.args.at c.index-proposal.result.now within c.self.invariant)
