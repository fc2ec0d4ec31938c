use Rattle.race_page.proofs.PieceLemmas.{with_begin}
use Rattle.race_page.proofs.piece.Piece.begin.Goals as goal

pub invariant_of-self-2 : goal.invariant_of-self-2
invariant_of-self-2 c = with_begin _ _ _ c.self.invariant c.in_ok-extend_from_slice.ensures.items c.args.tag c.begin_of.ensures
