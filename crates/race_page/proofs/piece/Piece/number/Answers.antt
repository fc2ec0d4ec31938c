use Rattle.std.proofs.Common.{◌∙◌}
use Rattle.race_page.proofs.PieceLemmas.{with_number}
use Rattle.race_page.proofs.piece.Piece.number.Goals as goal

pub invariant_of-self-2 : goal.invariant_of-self-2
invariant_of-self-2 c =
    with_number _ _ _ c.self.invariant c.in_ok-extend_from_slice.ensures.items c.args.number (c.as_bytes.ensures.value ∙ c.format-written.ensures.text)
