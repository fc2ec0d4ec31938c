-- What a recording says of itself in its first and its last line. All notions here are this project's own.
use Rattle.std.specs.Prelude.{◌≡◌, ℕ, ◌+◌, ◌-◌, ◌==◌, ◌&&◌, ◌||◌, nat_eq, nat_le, nat_lt, not, Bool, true, false, List, [], ◌++◌, length, take, slice_index, codes, Option, Some, None, Vec, if◌then◌else◌}
use Rattle.std.specs.List.{after_last, list_all, starts_with, ends_with}
use Rattle.std.specs.declared.alloc.Global.{Global}
use Rattle.wholeness.specs.declared.marks.Wholeness.{Wholeness}
use Rattle.wholeness.specs.declared.marks.Wholeness.TheVariants.{Unmarked, Whole, LeftOut, NoEnd}

-- a recording with marks begins so
abbrev pub begins : List ℕ → Bool
begins text = starts_with nat_eq text (codes "recording|begin(RECORDED)|")

-- the text without this byte at its end
abbrev pub without : ℕ → List ℕ → List ℕ
without byte text = if nat_lt 0 (length text) && (slice_index text (length text - 1) == byte) then take (length text - 1) text else text

-- the text without the line end at its end
abbrev pub without_end : List ℕ → List ℕ
without_end text = without 13 (without 10 text)

-- the last line says that the recording is whole
abbrev pub ends_whole : List ℕ → Bool
ends_whole text = ends_with nat_eq (without_end text) (codes "\nrecording|end(WHOLE)|")

-- one or more decimal digits
abbrev pub is_digit : ℕ → Bool
is_digit b = nat_le 48 b && nat_le b 57

abbrev pub is_number : List ℕ → Bool
is_number bytes = nat_lt 0 (length bytes) && list_all is_digit bytes

-- a byte of a cause: a letter, a digit, a blank, or one of `,-./:_`
abbrev pub is_letter : ℕ → Bool
is_letter b = (nat_le 65 b && nat_le b 90) || (nat_le 97 b && nat_le b 122)

abbrev pub is_plain : ℕ → Bool
is_plain b = is_letter b || b == 32 || b == 95 || (nat_le 44 b && nat_le b 58)

abbrev pub is_cause : List ℕ → Bool
is_cause bytes = nat_lt 0 (length bytes) && list_all is_plain bytes

-- the last line of a recording that left this number out, from this event on, for this cause
abbrev pub loss_line : List ℕ → List ℕ → List ℕ → List ℕ
loss_line count from cause =
    codes "recording|end(LEFT OUT " ++ count ++ codes " FROM " ++ from ++ codes ": " ++ cause ++ codes ")|"

-- what a report says of it
abbrev pub loss_words : List ℕ → List ℕ → List ℕ → List ℕ
loss_words count from cause = codes "left out " ++ count ++ codes " from " ++ from ++ codes ": " ++ cause

-- the line says that this number was left out, from this event on, for this cause
pub record IsLoss (line count from cause : List ℕ) : Type 0 where
  pub is : line ≡ loss_line count from cause
  pub count_is : is_number count ≡ true
  pub from_is : is_number from ≡ true
  pub cause_is : is_cause cause ≡ true

-- the line says that something was left out
abbrev pub TellsLoss : List ℕ → Type 0
TellsLoss line = (count from cause : List ℕ) × IsLoss line count from cause

-- what the text has after its last line feed, or all of it
abbrev pub last_line : List ℕ → List ℕ
last_line text = after_last (λ b. b == 10) text

-- what this line says of a recording that does not end as a whole one
abbrev pub IsLossIn : List ℕ → Wholeness → Type 0
IsLossIn line (LeftOut words last) =
    (last.items ≡ line) × ((count from cause : List ℕ) × IsLoss line count from cause × (words.items ≡ loss_words count from cause))
IsLossIn line NoEnd = ¬ TellsLoss line
IsLossIn line Unmarked = ⊥
IsLossIn line Whole = ⊥

-- What a text says of itself. It has no marks if it does not begin with one. Else it is whole if its last line says so,
-- and only then. Else its last line says what was left out, or its end is missing if that line does not say so.
abbrev pub IsWholeness : List ℕ → Wholeness → Type 0
IsWholeness text Unmarked = begins text ≡ false
IsWholeness text Whole = (begins text ≡ true) × (ends_whole text ≡ true)
IsWholeness text (LeftOut words last) =
    (begins text ≡ true) × (ends_whole text ≡ false) × IsLossIn (last_line (without_end text)) (LeftOut words last)
IsWholeness text NoEnd = (begins text ≡ true) × (ends_whole text ≡ false) × IsLossIn (last_line (without_end text)) NoEnd

-- nothing is known to be missing
abbrev pub is_whole : Wholeness → Bool
is_whole Unmarked = true
is_whole Whole = true
is_whole (LeftOut words last) = false
is_whole NoEnd = false

abbrev pub is_marked : Wholeness → Bool
is_marked Unmarked = false
is_marked Whole = true
is_marked (LeftOut words last) = true
is_marked NoEnd = true

-- what a report says of it, if something is missing
abbrev pub words_of : Wholeness → Option (List ℕ)
words_of Unmarked = None
words_of Whole = None
words_of (LeftOut words last) = Some words.items
words_of NoEnd = Some (codes "no end of the recording was read")

-- the first and the last line of a recording, and of each of its windows
abbrev pub begin_text : Wholeness → List ℕ
begin_text Unmarked = []
begin_text w = codes "recording|begin(RECORDED)|\n"

abbrev pub end_text : Wholeness → List ℕ
end_text Unmarked = []
end_text Whole = codes "recording|end(WHOLE)|\n"
end_text (LeftOut words last) = last.items ++ codes "\n"
end_text NoEnd = []
