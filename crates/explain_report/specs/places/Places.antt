-- The parts of a location: the place of an access, and then the calls that led there, each after an arrow ` < `. All
-- notions here are this project's own.
use Rattle.std.specs.Prelude.{ℕ, zero, suc, ◌+◌, ◌==◌, ◌&&◌, nat_eq, nat_le, nat_lt, Bool, cond, List, [], ◌∷◌, drop, take, length, codes, Option, Some, None}
use Rattle.std.specs.List.{after_last, before_last, list_all, starts_with}
use Rattle.std.specs.Option.{option_map}

-- the text begins with an arrow
abbrev pub is_arrow : List ℕ → Bool
is_arrow text = starts_with nat_eq text (codes " < ")

-- the index of the first arrow
abbrev pub arrow_at : List ℕ → Option ℕ
arrow_at [] = None
arrow_at (b ∷ bs) = cond (is_arrow (b ∷ bs)) (Some 0) (option_map (λ n. n + 1) (arrow_at bs))

abbrev pub before_by : List ℕ → Option ℕ → List ℕ
before_by text None = text
before_by text (Some n) = take n text

-- the text before the first arrow, or all
abbrev pub before_arrow : List ℕ → List ℕ
before_arrow text = before_by text (arrow_at text)

abbrev pub behind_by : List ℕ → Option ℕ → Option (List ℕ)
behind_by text None = None
behind_by text (Some n) = Some (drop (n + 3) text)

-- the text after the first arrow, if there is one
abbrev pub behind_arrow : List ℕ → Option (List ℕ)
behind_arrow text = behind_by text (arrow_at text)

-- the calls of a text, at most the first n
abbrev pub calls_in : ℕ → Option (List ℕ) → List (List ℕ)
calls_in zero text = []
calls_in (suc n) None = []
calls_in (suc n) (Some text) = before_arrow text ∷ calls_in n (behind_arrow text)

abbrev pub is_blank : ℕ → Bool
is_blank b = b == 32

abbrev pub is_colon : ℕ → Bool
is_colon b = b == 58

abbrev pub is_digit : ℕ → Bool
is_digit b = nat_le 48 b && nat_le b 57

-- the text is `FILE:LINE`: before its last colon there is some text, and after it are one or more digits and nothing
-- else
abbrev pub is_line : List ℕ → Bool
is_line text =
    nat_lt 0 (length (before_last is_colon text)) && (nat_lt 0 (length (after_last is_colon text)) && list_all is_digit (after_last is_colon text))

-- the file and the line of a call `FUNCTION FILE:LINE` or `FILE:LINE`; empty if it names none
abbrev pub call_place : List ℕ → List ℕ
call_place call = cond (is_line (after_last is_blank call)) (after_last is_blank call) []

-- the function of a call, which may have blanks
abbrev pub call_function : List ℕ → List ℕ
call_function call = cond (is_line (after_last is_blank call)) (before_last is_blank call) call
