-- Text as markup. The five characters and their entities are those of XML 1.0, section 4.6; the apostrophe has its
-- number, which HTML has too. The characters that a text may have are those of its section 2.2, without the tab and
-- line ends, which readers change.
use Rattle.std.specs.Prelude.{ℕ, ◌==◌, ◌&&◌, ◌||◌, not, nat_le, Bool, cond, List, flat_map, codes}
use Rattle.std.specs.Char.{encode_utf8}
use Rattle.std.specs.Str.{chars}
use Rattle.std.specs.Str.Lossy.{utf8_lossy}

-- whether the character c has a meaning in markup
abbrev pub is_special : ℕ → Bool
is_special c = (c == 60) || ((c == 62) || ((c == 38) || ((c == 34) || (c == 39))))

-- the entity for such a character
abbrev pub entity_of : ℕ → List ℕ
entity_of c =
    cond (c == 60) (codes "&lt;")
    (cond (c == 62) (codes "&gt;")
    (cond (c == 38) (codes "&amp;")
    (cond (c == 34) (codes "&quot;")
    (codes "&#39;"))))

-- whether the text may have the character
abbrev pub is_allowed : ℕ → Bool
is_allowed c = (nat_le 0x20 c) && (not (c == 0xFFFE) && not (c == 0xFFFF))

-- the character in UTF-8, or U+FFFD if the text may not have it
abbrev pub allowed_char : ℕ → List ℕ
allowed_char c = cond (is_allowed c) (encode_utf8 c) (encode_utf8 0xFFFD)

-- the character as markup
abbrev pub escaped_char : ℕ → List ℕ
escaped_char c = cond (is_special c) (entity_of c) (allowed_char c)

-- the bytes as markup; bytes that are not UTF-8 are read as U+FFFD
abbrev pub escaped : List ℕ → List ℕ
escaped bytes = flat_map escaped_char (chars (utf8_lossy bytes))
