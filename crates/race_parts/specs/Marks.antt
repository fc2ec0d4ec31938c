-- The marks of a part's lines. All notions here are this project's own.
use Rattle.std.specs.Prelude.{◌≡◌, ℕ, List, ◌∷◌, map}
use Rattle.serde_json.specs.Data.{Data}
use Rattle.race_parts.specs.Lines.{AreLines}
use Rattle.race_parts.specs.Rows.{mark_of}
use Rattle.race_parts.specs.declared.rows.Mark.{Mark}

-- d is the first line of the text, and the marks are those of the other lines
abbrev pub HasMarks : List ℕ → Data → List Mark → Type 0
HasMarks text d marks = (ds : List Data) × AreLines text (d ∷ ds) × (marks ≡ map mark_of ds)
