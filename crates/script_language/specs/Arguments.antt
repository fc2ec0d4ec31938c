-- How many words follow a command's word. No public clause cites this module.
use Rattle.std.specs.Prelude.{ℕ, Bool, true, false, List, [], ◌∷◌}
use Rattle.script_language.specs.declared.verb.CommandVerb.{CommandVerb}
use Rattle.script_language.specs.declared.verb.CommandVerb.TheVariants.{New, Add, Back, Swap, Branch, Drop, Adopt}

-- one word, two, three
abbrev pub is_one : List (List ℕ) → Bool
is_one [] = false
is_one (word ∷ []) = true
is_one (word ∷ other ∷ words) = false

abbrev pub are_two : List (List ℕ) → Bool
are_two [] = false
are_two (word ∷ words) = is_one words

abbrev pub are_three : List (List ℕ) → Bool
are_three [] = false
are_three (word ∷ words) = are_two words

-- as many words as a command of this kind has arguments
abbrev pub are_arguments : CommandVerb → List (List ℕ) → Bool
are_arguments New words = is_one words
are_arguments Add words = are_two words
are_arguments Back words = is_one words
are_arguments Swap words = are_two words
are_arguments Branch words = are_three words
are_arguments Drop words = is_one words
are_arguments Adopt words = are_two words
