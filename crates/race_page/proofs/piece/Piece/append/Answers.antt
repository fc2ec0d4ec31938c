use Rattle.race_page.proofs.PieceLemmas.{with_piece_after}
use Rattle.race_page.proofs.piece.Piece.append.Goals as goal

pub invariant_of-self-2 : goal.invariant_of-self-2
invariant_of-self-2 c = with_piece_after _ _ _ c.self.invariant c.in_ok-extend_from_slice.ensures.items _ c.bytes.ensures.piece c.bytes.ensures.text
