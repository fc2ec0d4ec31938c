-- A trace of any length, read in pieces. What was read is replaced by a text that leaves the same state.
use Rattle.std.specs.Prelude.{◌≡◌, ◌⊎◌, ◌↔◌, ⊤, ℕ, ◌+◌, ◌-◌, ◌==◌, ◌<◌, ◌≤◌, ◌||◌, Bool, true, false, List, [], ◌∷◌, ◌++◌, length, count_by, drop, take, map, flat_map, slice_index_or, All, Option, Some, None, Err, Ok, bytes_eq, codes}
use Rattle.std.specs.List.{IsDistinct, list_any, slice_split}
use Rattle.rapid_text.specs.Canonical.{events_text}
use Rattle.rapid_text.specs.Operations.{is_fork, is_join}
use Rattle.rapid_text.specs.Reading.{NamedEvent, LineReading, Skipped, Refused, Says, is_line_feed, line_reading, name_where, named_events, number_of, numbered, reading_of, recording_of, thread_uses, lock_uses}
use Rattle.rapid_text.specs.declared.event.Kind.{Kind}
use Rattle.rapid_text.specs.declared.event.Kind.TheVariants.{Acquires, Forks, Joins}
use Rattle.rapid_text.specs.declared.refusal.TextCause.{TextCause}
use Rattle.rapid_text.specs.Recording.{Recording}
use Rattle.rapid_text.specs.declared.event.Event.{Event}
use Rattle.rapid_text.specs.declared.event.Op.{Op}
use Rattle.rapid_text.specs.declared.event.Op.TheVariants.{Read, Write, Acquire, Release, Fork, Join}
use Rattle.rapid_text.specs.Refusals.{no_memory}
use Rattle.trace_rules.specs.Rules.{IsDisciplined, IsFirstBreach, hold_count, no_memory as no_table}
use Rattle.trace_rules.specs.declared.refusal.RuleRefusal.{RuleRefusal}
use Rattle.schedule.specs.Reordering.{IsCorrectReordering}
use Rattle.schedule.specs.Shows.{Shows}
use Rattle.window.specs.Cuts.{HasNoNewName, with_name}
use Rattle.window.specs.Laws.{IsNeverShown, IsNeverShownFrom}
use Rattle.window.specs.Window.{back, resumed}
use Rattle.window.specs.declared.piece.PieceFault.{PieceFault}
use Rattle.window.specs.declared.piece.PieceFault.TheVariants.{Text, Rule, NoSuchEvent, NoName, OutOfMemory}

-- the events of a text, without a limit on their number
abbrev pub said_in : List ℕ → List NamedEvent
said_in text = named_events (slice_split is_line_feed text)

-- the trace of a text, without a limit on its length
abbrev pub long_trace : List ℕ → List Event
long_trace text = (recording_of (said_in text)).events

-- the text is empty or ends with a line feed
abbrev pub IsWhole : List ℕ → Type 0
IsWhole text = (text ≡ []) ⊎ ((front : List ℕ) × (text ≡ front ++ 10 ∷ []))

-- The events B leave the same state as the events A, as far as it is about these threads: which thread holds which
-- lock how often, and which threads were forked, were joined, and have an event.
pub record IsLeft (P : ℕ → Type 0) (A B : List Event) : Type 0 where
  pub holds : (t l : ℕ) → hold_count A t l ≡ hold_count B t l
  pub forked : (u : ℕ) → P u → list_any (λ e. is_fork u e.op) A ≡ list_any (λ e. is_fork u e.op) B
  pub joined : (u : ℕ) → P u → list_any (λ e. is_join u e.op) A ≡ list_any (λ e. is_join u e.op) B
  pub seen : (u : ℕ) → P u → list_any (λ e. e.thread == u) A ≡ list_any (λ e. e.thread == u) B

-- whether the name is in the list
abbrev pub is_named : List (List ℕ) → List ℕ → Bool
is_named names name = list_any (bytes_eq name) names

-- whether a line of this kind forks a thread, and whether it joins one
abbrev pub names_forked : Kind → Bool
names_forked Forks = true
names_forked kind = false

abbrev pub names_joined : Kind → Bool
names_joined Joins = true
names_joined kind = false

-- the threads of the events, and those that they fork and join
abbrev pub own_uses : List NamedEvent → List (List ℕ)
own_uses es = flat_map (λ e. e.thread ∷ []) es

abbrev pub fork_uses : List NamedEvent → List (List ℕ)
fork_uses es = flat_map (name_where names_forked) es

abbrev pub join_uses : List NamedEvent → List (List ℕ)
join_uses es = flat_map (name_where names_joined) es

-- The recording has each thread and each lock of the events, and no name twice.
pub record IsNumbering (R : Recording) (es : List NamedEvent) : Type 0 where
  pub threads : (name : List ℕ) → list_any (bytes_eq name) (thread_uses es) ≡ true → list_any (bytes_eq name) R.threads ≡ true
  pub locks : (name : List ℕ) → list_any (bytes_eq name) (lock_uses es) ≡ true → list_any (bytes_eq name) R.locks ≡ true
  pub each_thread : IsDistinct bytes_eq R.threads
  pub each_lock : IsDistinct bytes_eq R.locks

-- the events with the numbers of the recording
abbrev pub by_numbers : Recording → List NamedEvent → List Event
by_numbers R es = map (numbered R.threads R.variables R.locks) es

-- the name of the variable that a head reads
abbrev pub read_name : List ℕ
read_name = codes "seen"

-- thread and lock are the recording's; the variable is too, or has the number after them
abbrev pub IsOfOp : Recording → Op → Type 0
IsOfOp r (Read x) = x ≤ length r.variables
IsOfOp r (Write x) = x ≤ length r.variables
IsOfOp r (Acquire l) = l < length r.locks
IsOfOp r (Release l) = l < length r.locks
IsOfOp r (Fork u) = u < length r.threads
IsOfOp r (Join u) = u < length r.threads

abbrev pub IsOf : Recording → Event → Type 0
IsOf r e = (e.thread < length r.threads) × IsOfOp r e.op

-- u is the number of a thread that the events name
abbrev pub IsThreadOf : Recording → List NamedEvent → ℕ → Type 0
IsThreadOf R es u = (name : List ℕ) × (is_named (thread_uses es) name ≡ true) × (u ≡ number_of R.threads name)

-- The text `head` replaces the text `front`, which keeps the rules, before the text `more`. However names are
-- numbered, it leaves the same state for the threads that `more` names.
pub record Stands (front head more : List ℕ) : Type 0 where
  pub whole : IsWhole front
  pub ends : IsWhole head
  pub keeps : IsDisciplined (long_trace front)
  pub names : (R : Recording) → IsNumbering R (said_in front) → IsNumbering R (said_in head)
  pub left :
      (R : Recording) → IsNumbering R (said_in front) → IsNumbering R (said_in more)
      → IsLeft (IsThreadOf R (said_in more)) (by_numbers R (said_in front)) (by_numbers R (said_in head))

-- The summary of a trace: the names of the threads that were forked, that have an event, and that were joined; and a
-- text of acquires for the locks that are held.
pub record Past : Type 0 where
  pub forked : List (List ℕ)
  pub seen : List (List ℕ)
  pub joined : List (List ℕ)
  pub held : List ℕ

-- The text keeps the rules, and this is its summary.
pub record IsPast (front : List ℕ) (past : Past) : Type 0 where
  pub whole : IsWhole front
  pub keeps : IsDisciplined (long_trace front)
  pub forked : (name : List ℕ) → is_named (fork_uses (said_in front)) name ≡ is_named past.forked name
  pub seen : (name : List ℕ) → is_named (own_uses (said_in front)) name ≡ is_named past.seen name
  pub joined : (name : List ℕ) → is_named (join_uses (said_in front)) name ≡ is_named past.joined name
  pub ends : IsWhole past.held
  pub takes : All (λ e. e.kind ≡ Acquires) (said_in past.held)
  pub names : (R : Recording) → IsNumbering R (said_in front) → IsNumbering R (said_in past.held)
  pub holds :
      (R : Recording) → IsNumbering R (said_in front) → (t l : ℕ)
      → hold_count (by_numbers R (said_in front)) t l ≡ hold_count (by_numbers R (said_in past.held)) t l

-- The text has the acquires for the locks that are held after the recording.
pub record IsHeldText (r : Recording) (text : List ℕ) : Type 0 where
  pub events : List Event
  pub named : All (IsOf r) events
  pub takes : All (λ e. (l : ℕ) × (e.op ≡ Acquire l)) events
  pub holds : (t l : ℕ) → hold_count r.events t l ≡ hold_count events t l
  pub is : text ≡ events_text (with_name r read_name) events []

-- the text has these acquires, and n is their number
abbrev pub HoldsIn : Recording → List ℕ → ℕ → Type 0
HoldsIn r text n = (is : IsHeldText r text) × (n ≡ length is.events)

-- the threads hold each lock as often after the events A as after the events B
abbrev pub HoldTheSame : List Event → List Event → Type 0
HoldTheSame A B = (t l : ℕ) → hold_count A t l ≡ hold_count B t l

-- The summary after a piece. It adds the threads that the piece forks or joins, and those that have an event in it.
-- Its text has the acquires for the locks that are held after the piece.
pub record IsNext (past next : Past) (r : Recording) (more : List ℕ) : Type 0 where
  pub forked : (name : List ℕ) → is_named next.forked name ≡ (is_named past.forked name || is_named (fork_uses (said_in more)) name)
  pub seen : (name : List ℕ) → is_named next.seen name ≡ (is_named past.seen name || is_named (own_uses (said_in more)) name)
  pub joined : (name : List ℕ) → is_named next.joined name ≡ (is_named past.joined name || is_named (join_uses (said_in more)) name)
  pub held : IsHeldText r next.held

-- The text reads as a complete trace: n events, and then the events K to M of the trace T. Take a pair of events,
-- both after its first n. If a correct reordering of the text shows the pair, the trace shows it by its first K
-- events and that reordering. The pair is never shown exactly if no such list of the trace shows it: one that begins
-- with its first K events and has none from M on.
pub record IsExactPart (T : List Event) (K M n : ℕ) (text : List ℕ) : Type 0 where
  pub inner : Recording
  pub reads : reading_of text ≡ Ok inner
  pub keeps : IsDisciplined inner.events
  pub size : length inner.events ≡ n + (M - K)
  pub correct : (P : List ℕ) → IsCorrectReordering inner.events P → IsCorrectReordering T (resumed n K P)
  pub shows :
      (P : List ℕ) (a b : ℕ) → IsCorrectReordering inner.events P → n ≤ a → n ≤ b → Shows inner.events P a b
      → Shows T (resumed n K P) (back n K a) (back n K b)
  pub apart :
      (a b : ℕ) → n ≤ a → a < length inner.events → n ≤ b → b < length inner.events
      → IsNeverShown inner.events a b ↔ IsNeverShownFrom T K M (back n K a) (back n K b)

-- The text is a window of the long text `whole`: after n events of a prologue, it has the events K to M by name and
-- with their locations.
pub record IsWindowAt (whole : List ℕ) (K M n : ℕ) (text : List ℕ) : Type 0 where
  pub exact : IsExactPart (long_trace whole) K M n text
  pub part : drop n (said_in text) ≡ take (M - K) (drop K (said_in whole))

-- the number of lines that end in the text
abbrev pub feeds : List ℕ → ℕ
feeds text = count_by is_line_feed text

-- why a line is refused on its own
abbrev pub line_fault : LineReading → Option TextCause
line_fault Skipped = None
line_fault (Refused why) = Some why
line_fault (Says event) = None

-- why line i of the text is refused on its own
abbrev pub refused_at : List ℕ → ℕ → Option TextCause
refused_at text i = line_fault (line_reading (slice_index_or (slice_split is_line_feed text) i []))

-- no line of the text is refused
abbrev pub IsUnrefused : List ℕ → Type 0
IsUnrefused text = (i : ℕ) → i < feeds text + 1 → refused_at text i ≡ None

-- The line with this number, counted from 1, is the first refused line of the text.
pub record IsFirstRefused (text : List ℕ) (line : ℕ) (why : TextCause) : Type 0 where
  pub counted : 0 < line
  pub within : line ≤ feeds text + 1
  pub fault : refused_at text (line - 1) ≡ Some why
  pub earlier : (j : ℕ) → j + 1 < line → refused_at text j ≡ None

-- What was read of a trace, and its summary.
pub record Stream : Type 0 where
  pub read : List ℕ
  pub past : Past

-- the number of acquires for the locks that are held after what was read
abbrev pub held_size : Stream → ℕ
held_size s = length (said_in s.past.held)

-- the empty summary
abbrev pub no_past : Past
no_past = record { forked = []; seen = []; joined = []; held = [] }

-- nothing has been read
abbrev pub nothing_read : Stream
nothing_read = record { read = []; past = no_past }

-- the text reads as a trace that keeps the rules
abbrev pub IsKept : List ℕ → Type 0
IsKept text = (r : Recording) × (reading_of text ≡ Ok r) × IsDisciplined r.events

-- The summary is that of what was read. It has `holds` acquires, and `number` events and `lines` lines were read.
pub record IsFront (read : List ℕ) (past : Past) (holds number lines : ℕ) : Type 0 where
  pub is_past : IsPast read past
  pub unrefused : IsUnrefused read
  pub holds_are : holds ≡ length (said_in past.held)
  pub number_is : number ≡ length (said_in read)
  pub number_small : number < 1000000000000000000
  pub lines_are : lines ≡ feeds read

-- Why there is no window of a text at the event `size`: the text cannot be read, it breaks a rule, it has no such
-- event, or every possible name is taken.
abbrev pub IsPieceFault : List ℕ → ℕ → PieceFault → Type 0
IsPieceFault text size (Text why) = (why ≡ no_memory) ⊎ (reading_of text ≡ Err why)
IsPieceFault text size (Rule why) = (r : Recording) × (reading_of text ≡ Ok r) × ((why ≡ no_table) ⊎ IsFirstBreach r.events why)
IsPieceFault text size NoSuchEvent = (r : Recording) × (reading_of text ≡ Ok r) × (length r.events ≤ size)
IsPieceFault text size NoName = (r : Recording) × (reading_of text ≡ Ok r) × HasNoNewName r
IsPieceFault text size OutOfMemory = ⊤

-- the trace breaks a rule, or the table of locks does not fit in memory
abbrev pub IsRuleFault : Recording → PieceFault → Type 0
IsRuleFault r fault = (why : RuleRefusal) × (fault ≡ Rule why) × ((why ≡ no_table) ⊎ IsFirstBreach r.events why)
