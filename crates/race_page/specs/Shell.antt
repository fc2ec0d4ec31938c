-- A name as one word for a shell. All notions here are this project's own; the quotes are those of POSIX, section 2.2.2 of its Shell Command Language.
use Rattle.std.specs.Prelude.{ℕ, ◌==◌, ◌&&◌, ◌||◌, nat_le, Bool, cond, List, [], ◌∷◌, ◌++◌, flat_map, codes}
use Rattle.std.specs.List.{list_all}

abbrev pub is_letter : ℕ → Bool
is_letter b = (nat_le 65 b && nat_le b 90) || (nat_le 97 b && nat_le b 122)

-- whether the byte means nothing to a shell: a letter, one from `+` to `:` (so a digit, a comma, a dash, a dot, a slash), `_`, `@` or `%`
abbrev pub is_plain : ℕ → Bool
is_plain b = is_letter b || ((nat_le 43 b && nat_le b 58) || ((b == 95) || ((b == 64) || (b == 37))))

-- a byte that comes between quotes; a quote ends the quotes, comes alone, and begins them again
abbrev pub quoted_byte : ℕ → List ℕ
quoted_byte b = cond (b == 39) (codes "'\\''") (b ∷ [])

abbrev pub quoted_text : List ℕ → List ℕ
quoted_text name = codes "'" ++ flat_map quoted_byte name ++ codes "'"

-- the name as it is if no byte means something, else between quotes
abbrev pub bare_or_quoted : List ℕ → List ℕ
bare_or_quoted [] = quoted_text []
bare_or_quoted (b ∷ bs) = cond (list_all is_plain (b ∷ bs)) (b ∷ bs) (quoted_text (b ∷ bs))

-- a name that begins with a dash is no option
abbrev pub folder_text : List ℕ → List ℕ
folder_text [] = []
folder_text (b ∷ bs) = cond (b == 45) (codes "./") []

abbrev pub shell_word : List ℕ → List ℕ
shell_word name = folder_text name ++ bare_or_quoted name
