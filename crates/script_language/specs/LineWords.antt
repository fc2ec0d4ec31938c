-- How a line is split into words, and which words are numbers.
use Rattle.std.specs.Prelude.{ℕ, ◌+◌, ◌-◌, ◌*◌, nat_lt, nat_le, Bool, ◌&&◌, if◌then◌else◌, List, length, filter, fold, Option, Some, None, codes, bytes_eq}
use Rattle.std.specs.List.{list_all, slice_split}
use Rattle.rapid_text.specs.Reading.{is_blank}
use Rattle.script_language.specs.Limits.{number_limit}

-- a line as words: the bytes between blanks
abbrev pub words_of : List ℕ → List (List ℕ)
words_of line = filter (λ word. nat_lt 0 (length word)) (slice_split is_blank line)

-- the word that separates the commands of a batch
abbrev pub is_separator : List ℕ → Bool
is_separator word = bytes_eq word (codes ";")

-- from `0` to `9`
abbrev pub is_digit : ℕ → Bool
is_digit c = nat_le 48 c && nat_le c 57

-- the value of decimal digits, the first one the highest
abbrev pub value_of : List ℕ → ℕ
value_of digits = fold (λ value digit. value * 10 + (digit - 48)) 0 digits

-- the number that the word writes, if it is not above the limit; it may begin with zeros
abbrev pub written_number : List ℕ → Option ℕ
written_number word =
    if nat_lt 0 (length word) && list_all is_digit word && nat_le (value_of word) number_limit
    then Some (value_of word)
    else None
