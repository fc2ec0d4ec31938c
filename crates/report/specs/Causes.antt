-- The text of why an event is not enabled, and of why two neighbours cannot be exchanged: the number of the cause and
-- its words.
use Rattle.std.specs.Prelude.{ℕ, List, ◌++◌, slice_get, Option, Some, None, codes, decimal}
use Rattle.rapid_text.specs.Recording.{Recording}
use Rattle.schedule.specs.declared.refusal.Disabled.{Disabled}
use Rattle.schedule.specs.declared.refusal.Disabled.TheVariants.{NoSuchEvent, NotNext, NotForked, WrongWriter, LockHeld, JoinEarly}
use Rattle.schedule.specs.declared.refusal.SwapRefusal.{SwapRefusal}
use Rattle.schedule.specs.declared.refusal.SwapRefusal.TheVariants.{NoSuchPair, Dependent}

-- the number of an event, or `none`
abbrev pub event_words : Option ℕ → List ℕ
event_words None = codes "none"
event_words (Some event) = decimal event

abbrev pub name_or_number : Option (List ℕ) → ℕ → List ℕ
name_or_number None thread = decimal thread
name_or_number (Some name) thread = name

-- the thread's name in the trace; its number if the trace has no such thread
abbrev pub thread_words : Recording → ℕ → List ℕ
thread_words trace thread = name_or_number (slice_get trace.threads thread) thread

-- why an event is not enabled
abbrev pub disabled_words : Recording → Disabled → List ℕ
disabled_words trace NoSuchEvent = codes "21 no such event"
disabled_words trace NotNext = codes "22 not next"
disabled_words trace NotForked = codes "23 not forked"
disabled_words trace (WrongWriter needs has) =
    codes "24 wrong writer needs " ++ event_words needs ++ codes " has " ++ event_words has
disabled_words trace (LockHeld thread) = codes "25 lock held by " ++ thread_words trace thread
disabled_words trace JoinEarly = codes "26 join early"

-- why two neighbours cannot be exchanged
abbrev pub swap_words : SwapRefusal → List ℕ
swap_words NoSuchPair = codes "28 no such pair"
swap_words Dependent = codes "29 dependent"

-- the line of a refused call, with the refusal's number and its words
abbrev pub refused_line : List ℕ → List ℕ
refused_line words = codes "refused " ++ words ++ codes "\n"
