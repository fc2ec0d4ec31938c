-- What a text that replaces what was read says about the whole trace.
use Rattle.std.specs.Prelude.{◌≡◌, ◌≢◌, ℕ, ◌+◌, ◌-◌, ◌≤◌, List, [], ◌++◌, length, Err, Ok}
use Rattle.rapid_text.specs.Reading.{reading_of}
use Rattle.rapid_text.specs.Recording.{Recording}
use Rattle.trace_rules.specs.Rules.{IsDisciplined, IsFirstBreach}
use Rattle.rapid_text.specs.declared.refusal.TextCause.TheVariants.{TooManyEvents, TooManyNames}
use Rattle.rapid_text.specs.declared.refusal.TextRefusal.{TextRefusal}
use Rattle.trace_rules.specs.declared.refusal.RuleRefusal.{RuleRefusal}
use Rattle.window.specs.CutLaws.{IsWindowText}
use Rattle.window.specs.Cuts.{prologue_size}
use Rattle.window.specs.Streams.{IsExactPart, IsFirstRefused, IsNext, IsPast, IsUnrefused, IsWhole, Past, Stands, feeds, long_trace, no_past, said_in}

-- the summary before the first event is empty
abbrev pub StreamBegins : Type 0
StreamBegins = IsPast [] no_past

-- The summary after a piece is that of both.
abbrev pub StreamGoesOn : Type 0
StreamGoesOn =
    (front head more : List ℕ) (r : Recording) (past next : Past)
    → IsPast front past
    → Stands front head more
    → IsWhole more
    → reading_of (head ++ more) ≡ Ok r
    → IsDisciplined r.events
    → IsNext past next r more
    → IsPast (front ++ more) next

-- What was read and the piece after it keep the rules of traces, if the piece keeps them after the head.
abbrev pub StreamKeepsRules : Type 0
StreamKeepsRules =
    (front head more : List ℕ) (r : Recording)
    → Stands front head more
    → reading_of (head ++ more) ≡ Ok r
    → IsDisciplined r.events
    → IsDisciplined (long_trace (front ++ more))

-- A window after the head is a part of the whole trace, no matter what comes after the piece.
abbrev pub StreamIsSound : Type 0
StreamIsSound =
    (front head more later text : List ℕ) (r : Recording) (k m : ℕ)
    → Stands front head more
    → IsWhole more
    → reading_of (head ++ more) ≡ Ok r
    → IsDisciplined r.events
    → IsDisciplined (long_trace (front ++ (more ++ later)))
    → length (said_in head) ≤ k
    → IsWindowText r k m text
    → IsExactPart
    (long_trace (front ++ (more ++ later)))
    (length (said_in front) + (k - length (said_in head)))
    (length (said_in front) + (m - length (said_in head)))
    (prologue_size r k m)
    text

-- An event of the piece that is the first to break a rule after the head is the first in all that was read. It breaks
-- the same rule there.
abbrev pub StreamBreaks : Type 0
StreamBreaks =
    (front head more : List ℕ) (r : Recording) (why : RuleRefusal)
    → Stands front head more
    → IsDisciplined (long_trace head)
    → reading_of (head ++ more) ≡ Ok r
    → IsFirstBreach r.events why
    → (length (said_in head) ≤ why.event)
    × IsFirstBreach
    (long_trace (front ++ more))
    (record { event = length (said_in front) + (why.event - length (said_in head)); why = why.why })

-- If no line of what was read and no line of the piece is refused, no line of both is.
abbrev pub StreamReads : Type 0
StreamReads =
    (front more : List ℕ) (r : Recording)
    → IsWhole front
    → IsUnrefused front
    → reading_of more ≡ Ok r
    → IsUnrefused (front ++ more)

-- The first refused line of the piece is the first in all that was read, for the same cause. This excludes the limits
-- on events and threads.
abbrev pub StreamRefuses : Type 0
StreamRefuses =
    (front more : List ℕ) (why : TextRefusal)
    → IsWhole front
    → IsUnrefused front
    → reading_of more ≡ Err why
    → why.why ≢ TooManyEvents
    → why.why ≢ TooManyNames
    → IsFirstRefused (front ++ more) (feeds front + why.line) why.why
