use Rattle.race_page.proofs.PieceLemmas.{no_piece}
use Rattle.race_page.proofs.piece.Piece.new.Goals as goal

pub invariant_of-result : goal.invariant_of-result
invariant_of-result c = no_piece _ c.new.ensures.items
