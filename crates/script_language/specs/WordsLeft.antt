-- What is left of a line whose words are taken one by one. No public clause cites this module.
use Rattle.std.specs.Prelude.{ℕ, Bool, true, false, List, [], Option, Some, None}
use Rattle.std.specs.List.{slice_split, before_first}
use Rattle.script_language.specs.LineWords.{words_of, is_separator}
use Rattle.script_language.specs.declared.lines.Words.TheInside.{Inside}

-- these words, or those before the first separator
abbrev pub up_to : Bool → List (List ℕ) → List (List ℕ)
up_to true words = before_first is_separator words
up_to false words = words

-- what is left, word by word
abbrev pub words_left : Inside → List (List ℕ)
words_left w = up_to w.is_part (words_of w.rest.now)

-- the parts that are left; none after the last one, which no separator ends
abbrev pub parts_left : Option (List (List ℕ)) → List (List (List ℕ))
parts_left None = []
parts_left (Some words) = slice_split is_separator words
