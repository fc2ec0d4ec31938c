-- How badly a word fits a location: as a file and a line, the end of their path, or a part of the location. All
-- notions here are this project's own.
use Rattle.std.specs.Prelude.{ℕ, zero, suc, ◌+◌, ◌-◌, ◌==◌, ◌&&◌, ◌||◌, not, nat_eq, nat_le, nat_lt, Bool, false, cond, List, drop, length, slice_index}
use Rattle.std.specs.List.{ends_with, starts_with}
use Rattle.std.specs.Cmp.Lexicographic.{pointwise}
use Rattle.explain_report.specs.places.Places.{before_arrow, is_digit}

-- a digit, a letter, an underscore, or a byte of another script
abbrev pub is_word_byte : ℕ → Bool
is_word_byte b = is_digit b || ((nat_le 65 b && nat_le b 90) || (b == 95 || ((nat_le 97 b && nat_le b 122) || nat_le 128 b)))

-- no word of the text continues across this index
abbrev pub is_edge : List ℕ → ℕ → Bool
is_edge text at = at == 0 || (nat_le (length text) at || not (is_word_byte (slice_index text (at - 1)) && is_word_byte (slice_index text at)))

-- the part begins in the text at this index, and cuts no word of it
abbrev pub is_part_at : List ℕ → List ℕ → ℕ → Bool
is_part_at part text at = starts_with nat_eq (drop at text) part && (is_edge text at && is_edge text (at + length part))

-- a number below n passes the test
abbrev pub any_below : (ℕ → Bool) → ℕ → Bool
any_below test zero = false
any_below test (suc n) = any_below test n || test n

-- the part is somewhere in the text
abbrev pub is_part : List ℕ → List ℕ → Bool
is_part part text = any_below (is_part_at part text) (length text)

-- the path ends with a slash and this tail, which is not empty
abbrev pub is_tail : List ℕ → List ℕ → Bool
is_tail path tail =
    nat_lt 0 (length tail)
    && (nat_lt (length tail) (length path) && (slice_index path (length path - length tail - 1) == 47 && ends_with nat_eq path tail))

-- the word is the place of the location, or all of it
abbrev pub is_whole : List ℕ → List ℕ → Bool
is_whole word location = pointwise nat_eq (before_arrow location) word || pointwise nat_eq location word

-- the place ends with the word as a path, or the word with the place
abbrev pub is_path : List ℕ → List ℕ → Bool
is_path word location = is_tail (before_arrow location) word || is_tail word (before_arrow location)

-- how badly the word fits the location: 0 for the whole, 1 as a path, 2 as a part, 3 not at all
abbrev pub misfit : List ℕ → List ℕ → ℕ
misfit word location = cond (is_whole word location) 0 (cond (is_path word location) 1 (cond (is_part word location) 2 3))
