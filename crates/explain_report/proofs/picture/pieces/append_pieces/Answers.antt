use Rattle.std.proofs.Common.{◌++◌, List, take_all, ap, ◌∙◌, arith}
use Rattle.explain_report.specs.picture.Pieces.{pieces_text}
use Rattle.explain_report.specs.declared.picture.pieces.Piece.{Piece}
use Rattle.explain_report.proofs.picture.pieces.append_pieces.Goals as goal

pub returns : goal.returns
returns c =
    c.loop-piece.invariant
    ∙ ap (λ (listed : List Piece). c.args.out.now.items ++ pieces_text listed) (take_all c.loop-piece.piece-index c.args.pieces.now (omega arith))
