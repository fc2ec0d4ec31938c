-- The form in which the log keeps a line of the input.
use Rattle.std.specs.Prelude.{ℕ, List, [], ◌∷◌, ◌++◌, Option, Some, None, codes, decimal}
use Rattle.rapid_text.specs.Reading.{trimmed}

-- the client's number, a blank and these words; empty if there are no words
abbrev pub behind_client : ℕ → List ℕ → List ℕ
behind_client client [] = []
behind_client client (byte ∷ words) = decimal client ++ codes " " ++ (byte ∷ words)

-- a line without blanks at its ends, after its client's number if a client is given
abbrev pub line_for : Option ℕ → List ℕ → List ℕ
line_for None raw = trimmed raw
line_for (Some client) raw = behind_client client (trimmed raw)
