-- A text made of pieces.
use Rattle.std.specs.Prelude.{ℕ, List, flat_map, decimal}
use Rattle.explain_report.specs.declared.picture.pieces.Piece.{Piece}
use Rattle.explain_report.specs.declared.picture.pieces.Piece.TheVariants.{Words, Number}

-- the text of a piece
abbrev pub piece_text : Piece → List ℕ
piece_text (Words words) = words.now
piece_text (Number n) = decimal n

-- the text of pieces, one after the other
abbrev pub pieces_text : List Piece → List ℕ
pieces_text ps = flat_map piece_text ps
