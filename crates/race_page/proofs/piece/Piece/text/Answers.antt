use Rattle.std.proofs.Common.{refl}
use Rattle.race_page.proofs.PieceLemmas.{with_text}
use Rattle.race_page.proofs.piece.Piece.text.Goals as goal

pub invariant_of-self-2 : goal.invariant_of-self-2
invariant_of-self-2 c = with_text _ _ _ c.self.invariant c.in_ok-append_text.ensures.ok c.args.text.now refl
