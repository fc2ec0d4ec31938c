-- The numbers of events in a line of JSON, and the line with other numbers instead.
use Rattle.std.specs.Prelude.{◌≡◌, ℕ, ◌+◌, ◌^◌, ◌<◌, ◌≤◌, ◌&&◌, nat_lt, nat_le, if◌then◌else◌, List, [], ◌∷◌, ◌++◌, length, slice_index, Some, None, codes}
use Rattle.std.specs.Char.{digit_value}
use Rattle.std.specs.Fmt.{decimal}
use Rattle.std.specs.Str.Parse.{AllDigits, digits_value}
use Rattle.memchr.specs.Find.{FindsNeedle}
use Rattle.window.specs.Window.{back}
use Rattle.window.specs.declared.cutting.Window.{Window}

-- the text before the number of an event; inside a string of JSON each quote has a backslash before it
abbrev pub event_mark : List ℕ
event_mark = codes "{\"event\":"

-- the text does not begin with a digit
abbrev pub HasNoDigit : List ℕ → Type 0
HasNoDigit text = 0 < length text → 10 ≤ digit_value (slice_index text 0)

-- the number of an event in a line: the text before it, from the end of the number before, and its digits
pub record Marked : Type 0 where
  pub front : List ℕ
  pub digits : List ℕ

-- the line with these numbers, whose digits `shown` maps, and then this text
abbrev pub line_with : (List ℕ → List ℕ) → List Marked → List ℕ → List ℕ
line_with shown [] last = last
line_with shown (m ∷ ms) last = m.front ++ (shown m.digits ++ line_with shown ms last)

-- the digits as they are
abbrev pub as_written : List ℕ → List ℕ
as_written digits = digits

-- The text before the number ends with the first mark in the rest of the line, and the number has all its digits.
pub record IsMarked (m : Marked) (rest : List ℕ) : Type 0 where
  pub place : ℕ
  pub ends : length m.front ≡ place + length event_mark
  pub first : FindsNeedle (m.front ++ (m.digits ++ rest)) event_mark 0 (Some place)
  pub digits : AllDigits 10 m.digits
  pub all : HasNoDigit rest

-- these are all numbers of events in their line, in order
abbrev pub AreAll : List Marked → List ℕ → Type 0
AreAll [] last = FindsNeedle last event_mark 0 None
AreAll (m ∷ ms) last = IsMarked m (line_with as_written ms last) × AreAll ms last

-- The digits of the event's number in the trace. The digits stay for an event of the prologue, and for a number that
-- does not fit in a u64.
abbrev pub moved_digits : ℕ → ℕ → List ℕ → List ℕ
moved_digits n k digits =
    let event = digits_value 10 digits in
    if nat_lt event (2 ^ 64) && (nat_le n event && nat_lt (back n k event) (2 ^ 64)) then decimal (back n k event) else digits

-- the text has no number of an event
abbrev pub HasNoMark : List ℕ → Type 0
HasNoMark text = FindsNeedle text event_mark 0 None

-- The front of the text up to its first number of an event was appended, with that number as in the trace. The rest
-- of the text comes after that number.
abbrev pub MovesFirst : Window → List ℕ → List ℕ → List ℕ → List ℕ → Type 0
MovesFirst w text rest old new =
    (m : Marked)
    × IsMarked m rest
    × (text ≡ m.front ++ (m.digits ++ rest))
    × (new ≡ old ++ (m.front ++ moved_digits w.prologue w.from m.digits))

-- The line `moved` is the line `line`, except that each event has its number in the trace. The window begins at k
-- there, with a prologue of n events.
pub record IsMoved (n k : ℕ) (line moved : List ℕ) : Type 0 where
  pub numbers : List Marked
  pub last : List ℕ
  pub all : AreAll numbers last
  pub line_is : line ≡ line_with as_written numbers last
  pub moved_is : moved ≡ line_with (moved_digits n k) numbers last

-- the line was appended with the numbers that its events have in the trace
abbrev pub AppendsMoved : Window → List ℕ → List ℕ → List ℕ → Type 0
AppendsMoved w line old new = (moved : List ℕ) × IsMoved w.prologue w.from line moved × (new ≡ old ++ moved)
