use Rattle.race_page.proofs.PieceLemmas.{with_part}
use Rattle.race_page.proofs.piece.Piece.part.Goals as goal

pub invariant_of-self-2 : goal.invariant_of-self-2
invariant_of-self-2 c = with_part _ _ _ c.self.invariant c.in_ok-extend_from_slice.ensures.items c.args.part c.bytes_of.ensures
