-- Markup that is written: own bytes, numbers, and texts that are escaped. All notions here are this project's own.
use Rattle.std.specs.Prelude.{ℕ, List, flat_map, decimal}
use Rattle.markup.specs.Escaped.{escaped}
use Rattle.race_page.specs.declared.marks.Mark.{Mark}
use Rattle.race_page.specs.declared.marks.Mark.TheVariants.{Own, Number, Text}

abbrev pub mark_text : Mark → List ℕ
mark_text (Own bytes) = bytes.now
mark_text (Number n) = decimal n
mark_text (Text text) = escaped text.now

-- these, one after another
abbrev pub marks_text : List Mark → List ℕ
marks_text marks = flat_map mark_text marks
