-- The names that a recorder gives to variables, and the NUMBER in some of them. A word in capitals is any text that has
-- no `#` after the NUMBER; K and N are one or more digits. All notions here are this project's own.
--     "heap:" FILE ":" LINE [" " TYPE] [NUMBER] ["[" K "]"] PATH     a block
--     "stack:" FUNCTION [NUMBER] OFFSET                              a part of a frame; OFFSET begins with + or -
--     FUNCTION [NUMBER] ":" VARIABLE PATH                            a variable of a frame
--     NUMBER = "#" K | "#T" N ["." K]
--     PATH = ("." MEMBER | "[" K "]").. ["+" BYTE]
-- All other names have no NUMBER: so `mine#T1`, T1's own copy of a variable, and `sync:X#2`, the second meeting at X.
use Rattle.std.specs.Prelude.{ℕ, ◌==◌, ◌&&◌, ◌||◌, nat_eq, nat_le, nat_lt, not, Bool, cond, List, [], ◌++◌, drop, length, codes, Option, Some, None, option_and_then, option_map, unwrap_or}
use Rattle.std.specs.List.{after_last, before_last, position_or_len, starts_with}

abbrev pub begins : List ℕ → List ℕ → Bool
begins text word = starts_with nat_eq text word

abbrev pub is_hash : ℕ → Bool
is_hash b = b == 35

abbrev pub is_digit : ℕ → Bool
is_digit b = nat_le 48 b && nat_le b 57

abbrev pub is_other : ℕ → Bool
is_other b = not (is_digit b)

-- how many digits the text begins with
abbrev pub digit_count : List ℕ → ℕ
digit_count text = position_or_len is_other text

-- the text after the digits that it begins with, if it does
abbrev pub after_digits : List ℕ → Option (List ℕ)
after_digits text = cond (nat_lt 0 (digit_count text)) (Some (drop (digit_count text) text)) None

-- the text after "." K if it begins so, else the text
abbrev pub after_order : List ℕ → List ℕ
after_order text = cond (begins text (codes ".")) (unwrap_or (after_digits (drop 1 text)) text) text

-- the text after a NUMBER, without the `#`, if it begins with one
abbrev pub after_number : List ℕ → Option (List ℕ)
after_number text = cond (begins text (codes "T")) (option_map after_order (after_digits (drop 1 text))) (after_digits text)

-- what comes after the NUMBER of a block
abbrev pub is_path : List ℕ → Bool
is_path text = length text == 0 || (begins text (codes "[") || (begins text (codes ".") || begins text (codes "+")))

abbrev pub is_offset : List ℕ → Bool
is_offset text = begins text (codes "+") || begins text (codes "-")

-- what comes after the NUMBER of a function
abbrev pub is_variable : List ℕ → Bool
is_variable text = begins text (codes ":") && nat_lt 1 (length text)

-- the text is the function of a variable of a frame
abbrev pub is_function : List ℕ → Bool
is_function text = nat_lt 0 (length text) && not (begins text (codes "atomic:") || (begins text (codes "held:") || begins text (codes "sync:")))

-- a name may have a NUMBER between these two texts
abbrev pub is_between : List ℕ → List ℕ → Bool
is_between before after =
    cond (begins before (codes "heap:")) (is_path after)
    (cond (begins before (codes "stack:")) (is_offset after) (is_function before && is_variable after))

-- the text before the last `#` of a name, and the text after it
abbrev pub before_hash : List ℕ → List ℕ
before_hash name = before_last is_hash name

abbrev pub after_hash : List ℕ → List ℕ
after_hash name = after_last is_hash name

abbrev pub checked : List ℕ → List ℕ → Option (List ℕ)
checked before after = cond (is_between before after) (Some after) None

-- the text after a name's NUMBER, if it has one
abbrev pub rest_of : List ℕ → Option (List ℕ)
rest_of name = option_and_then (checked (before_hash name)) (after_number (after_hash name))

abbrev pub parts_by : List ℕ → Option (List ℕ) → List ℕ × List ℕ
parts_by name None = (name, [])
parts_by name (Some rest) = (before_hash name, rest)

-- the texts before and after a name's NUMBER; the name and nothing if it has none
abbrev pub parts_of : List ℕ → List ℕ × List ℕ
parts_of name = parts_by name (rest_of name)

abbrev pub joined : List ℕ × List ℕ → List ℕ
joined p = p.0 ++ p.1

-- the name without its NUMBER
abbrev pub without_number : List ℕ → List ℕ
without_number name = joined (parts_of name)

-- the name is an address: no variable of the source is known there
abbrev pub is_address : List ℕ → Bool
is_address name = begins name (codes "stack:") || begins name (codes "memory:")
