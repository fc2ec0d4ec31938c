-- Why a piece of a long trace is refused after the pieces before it.
use Rattle.std.specs.Prelude.{◌≡◌, ◌⊎◌, ⊤, ℕ, ◌+◌, ◌/◌, ◌^◌, ◌<◌, ◌≤◌, nat_lt, if◌then◌else◌, List, [], ◌++◌, length, Err, Ok}
use Rattle.rapid_text.specs.Limits.{event_limit}
use Rattle.rapid_text.specs.Reading.{reading_of}
use Rattle.rapid_text.specs.Recording.{Recording}
use Rattle.rapid_text.specs.declared.refusal.TextCause.TheVariants.{TooManyEvents, TooManyNames}
use Rattle.rapid_text.specs.declared.refusal.TextRefusal.{TextRefusal}
use Rattle.trace_rules.specs.Rules.{IsDisciplined, IsFirstBreach}
use Rattle.window.specs.Cuts.{HasNoNewName, prologue_size}
use Rattle.window.specs.HeadText.{all_of, head_text}
use Rattle.window.specs.Streams.{IsFirstRefused, IsKept, IsUnrefused, IsWhole, IsWindowAt, Stands, Stream, feeds, long_trace, said_in}
use Rattle.window.specs.declared.cutting.Window.{Window}
use Rattle.window.specs.declared.fault.FrontFault.{FrontFault}
use Rattle.window.specs.declared.fault.FrontFault.TheVariants.{Text, Rule, Unended, NoSuchEvent, NoName, TooManyThreads, TooLong, OutOfMemory}

-- the text is refused because it has more events than a trace may have; or because it has more threads
abbrev pub HasTooManyEvents : List ℕ → Type 0
HasTooManyEvents text = (why : TextRefusal) × (reading_of text ≡ Err why) × (why.why ≡ TooManyEvents)

abbrev pub HasTooManyThreads : List ℕ → Type 0
HasTooManyThreads text = (why : TextRefusal) × (reading_of text ≡ Err why) × (why.why ≡ TooManyNames)

-- the piece can be read alone, and `head` is the text that replaces what was read, for the threads of the piece
abbrev pub IsHead : Stream → List ℕ → List ℕ → Type 0
IsHead s more head =
    Stands s.read head more × ((piece : Recording) × (reading_of more ≡ Ok piece) × (head ≡ head_text s.past (all_of piece.threads)))

-- The number of events or lines read would be too large. Or the piece, after the text that replaces what was read,
-- has more events than a trace may have. Or that text does not read as a trace that keeps the rules.
abbrev pub IsTooLong : Stream → List ℕ → Type 0
IsTooLong s more =
    (1000000000000000000 ≤ length (said_in s.read) + length (said_in more))
    ⊎ ((2 ^ 64 ≤ feeds s.read + feeds more)
    ⊎ (((why : TextRefusal) × (reading_of more ≡ Err why) × ((why.why ≡ TooManyEvents) ⊎ (2 ^ 64 ≤ feeds s.read + why.line)))
    ⊎ ((head : List ℕ) × IsHead s more head × ((¬ IsKept head) ⊎ HasTooManyEvents (head ++ more)))))

-- the piece has more threads than a trace may have, alone or after the text that replaces what was read
abbrev pub IsTooWide : Stream → List ℕ → Type 0
IsTooWide s more =
    HasTooManyThreads more ⊎ ((head : List ℕ) × IsHead s more head × (HasTooManyThreads head ⊎ HasTooManyThreads (head ++ more)))

-- Why the piece is refused. Events and lines are counted over all that was read.
abbrev pub IsFrontFault : Stream → List ℕ → FrontFault → Type 0
IsFrontFault s more (Text line why) = IsFirstRefused (s.read ++ more) line why
IsFrontFault s more (Rule event why) = IsFirstBreach (long_trace (s.read ++ more)) (record { event = event; why = why })
IsFrontFault s more Unended = ¬ IsWhole more
IsFrontFault s more NoSuchEvent = said_in more ≡ []
IsFrontFault s more NoName =
    (head : List ℕ) × (r : Recording) × IsHead s more head × (reading_of (head ++ more) ≡ Ok r) × HasNoNewName r
IsFrontFault s more TooManyThreads = IsTooWide s more
IsFrontFault s more TooLong = IsTooLong s more
IsFrontFault s more OutOfMemory = ⊤

-- no matter what comes later, this is a window of the whole trace: of what was read, of the piece, and of the later
-- text
abbrev pub IsWindowAfter : List ℕ → List ℕ → Window → Type 0
IsWindowAfter read more w =
    (later : List ℕ)
    → IsDisciplined (long_trace (read ++ (more ++ later)))
    → IsWindowAt (read ++ (more ++ later)) w.from w.to w.prologue w.text.items

-- the same for any text that the head replaces, with this number of events
abbrev pub IsWindowBehind : List ℕ → List ℕ → ℕ → Window → Type 0
IsWindowBehind head more number w =
    (front later : List ℕ)
    → Stands front head more
    → IsWhole more
    → number ≡ length (said_in front)
    → IsDisciplined (long_trace (front ++ (more ++ later)))
    → IsWindowAt (front ++ (more ++ later)) number w.to w.prologue w.text.items

-- what was read and the piece after it keep the rules, and none of their lines is refused
abbrev pub KeepsOn : List ℕ → List ℕ → Type 0
KeepsOn read more = IsDisciplined (long_trace (read ++ more)) × IsUnrefused (read ++ more)

-- the number of requested events: at most `most`, and no more than the piece has
abbrev pub asked_of : List ℕ → ℕ → ℕ
asked_of more most = if nat_lt (length (said_in more)) most then length (said_in more) else most

-- after this head, a window of the piece's next j events is longer than a trace may be
abbrev pub IsOver : List ℕ → List ℕ → ℕ → Type 0
IsOver head more j =
    (r : Recording) × (reading_of (head ++ more) ≡ Ok r)
    × (event_limit < prologue_size r (length (said_in head)) (length (said_in head) + j) + j)

-- The window has all requested events, or half of j events of which P holds.
abbrev pub IsLongestBy : (ℕ → Type 0) → List ℕ → ℕ → Window → Type 0
IsLongestBy P more most w =
    (w.to ≡ w.from + asked_of more most) ⊎ ((j : ℕ) × (j ≤ asked_of more most) × (w.to ≡ w.from + j / 2) × P j)

-- The window has all requested events, unless a window with twice as many events as this one would be longer
-- than a trace may be.
abbrev pub IsLongest : List ℕ → List ℕ → ℕ → Window → Type 0
IsLongest read more most w =
    IsLongestBy (λ j. (head : List ℕ) × Stands read head more × IsOver head more j) more most w
