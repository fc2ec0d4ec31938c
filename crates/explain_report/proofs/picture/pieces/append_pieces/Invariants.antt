-- The pieces so far are appended.
use Rattle.std.proofs.Common.{◌≡◌, ◌++◌, take}
use Rattle.explain_report.specs.picture.Pieces.{pieces_text}
use Rattle.explain_report.proofs.picture.pieces.append_pieces.Given as goal

abbrev pub invariant-loop-piece : goal.invariant-loop-piece
invariant-loop-piece l = l.out.items ≡ l.fn.out.items ++ pieces_text (take l.piece-index l.pieces)
