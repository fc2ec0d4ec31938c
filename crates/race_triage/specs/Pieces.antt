-- Numbers, and the text of events. `r` is a recording. All notions here are this project's own.
use Rattle.std.specs.Prelude.{ℕ, ◌-◌, ◌^◌, min, List, [], ◌++◌, slice_get, slice_index_or, Option, Some, None, codes, decimal}
use Rattle.rapid_text.specs.Canonical.{name_at, op_text}
use Rattle.rapid_text.specs.Recording.{Recording}
use Rattle.rapid_text.specs.declared.event.Event.{Event}

-- a number of 64 bits; a greater number counts as 2^64 - 1
abbrev pub capped : ℕ → ℕ
capped n = min n (2 ^ 64 - 1)

-- a blank and the number
abbrev pub number_text : ℕ → List ℕ
number_text n = codes " " ++ decimal n

-- a line with a word and a number
abbrev pub count_line : List ℕ → ℕ → List ℕ
count_line word n = word ++ number_text n ++ codes "\n"

-- an event as `thread|word(name)|location`
abbrev pub event_words : Recording → Event → List ℕ → List ℕ
event_words r v location = name_at r.threads v.thread ++ codes "|" ++ op_text r v.op ++ codes "|" ++ location

abbrev pub event_words_by : Recording → ℕ → Option Event → List ℕ
event_words_by r e None = []
event_words_by r e (Some v) = event_words r v (slice_index_or r.locations e [])

-- event e in this form; empty if there is no such event
abbrev pub event_words_at : Recording → ℕ → List ℕ
event_words_at r e = event_words_by r e (slice_get r.events e)
