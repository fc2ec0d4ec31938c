-- The bytes of the pieces of a line.
use Rattle.std.specs.Prelude.{ℕ, List, ◌∷◌, ◌++◌, flat_map, decimal}
use Rattle.report.specs.declared.pieces.Piece.{Piece}
use Rattle.report.specs.declared.pieces.Piece.TheVariants.{Words, Number, Numbers, Names, Pairs}

-- each number after a blank
abbrev pub spaced : List ℕ → List ℕ
spaced numbers = flat_map (λ number. 32 ∷ decimal number) numbers

-- each name after a blank
abbrev pub spaced_names : List (List ℕ) → List ℕ
spaced_names names = flat_map (λ name. 32 ∷ name) names

-- a blank, and the pair's two numbers with a hyphen between them
abbrev pub spaced_pair : ℕ × ℕ → List ℕ
spaced_pair (first, second) = 32 ∷ decimal first ++ 45 ∷ decimal second

-- each pair in this form
abbrev pub spaced_pairs : List (ℕ × ℕ) → List ℕ
spaced_pairs pairs = flat_map spaced_pair pairs

abbrev pub piece_bytes : Piece → List ℕ
piece_bytes (Words words) = words.now
piece_bytes (Number number) = decimal number
piece_bytes (Numbers numbers) = spaced numbers.now
piece_bytes (Names names) = spaced_names names.now
piece_bytes (Pairs pairs) = spaced_pairs pairs.now

-- the pieces' bytes, one after another
abbrev pub pieces_text : List Piece → List ℕ
pieces_text pieces = flat_map piece_bytes pieces
