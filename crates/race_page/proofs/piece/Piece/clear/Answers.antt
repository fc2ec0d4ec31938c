use Rattle.race_page.proofs.PieceLemmas.{no_piece}
use Rattle.race_page.proofs.piece.Piece.clear.Goals as goal

pub invariant_of-self : goal.invariant_of-self
invariant_of-self c = no_piece _ c.clear.ensures.items
