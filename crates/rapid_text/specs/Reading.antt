-- What a trace text means: its events with names and locations, or its first refused line and cause. A line has the
-- form of RAPID's README, `thread|operation(name)|location`. Which lines are skipped, refused or ignored is this
-- project's own.
use Rattle.std.specs.Prelude.{ℕ, ◌+◌, ◌-◌, ◌==◌, nat_eq, nat_lt, nat_le, Bool, true, false, not, ◌||◌, if◌then◌else◌, List, [], ◌∷◌, ◌++◌, map, length, take, drop, filter, filter_map, flat_map, find, position, slice_index_or, Option, Some, None, option_map, unwrap_or, Result, Ok, Err, codes, bytes_eq}
use Rattle.std.specs.List.{ends_with, prefix_len, suffix_len, list_any, before_first, after_first, before_last, slice_split, range_with_len}
use Rattle.rapid_text.specs.declared.event.Event.{Event}
use Rattle.rapid_text.specs.declared.event.Kind.{Kind}
use Rattle.rapid_text.specs.declared.event.Kind.TheVariants.{Reads, Writes, Acquires, Releases, Forks, Joins}
use Rattle.rapid_text.specs.declared.event.Op.{Op}
use Rattle.rapid_text.specs.declared.event.Op.TheVariants.{Read, Write, Acquire, Release, Fork, Join}
use Rattle.rapid_text.specs.declared.refusal.TextCause.{TextCause}
use Rattle.rapid_text.specs.declared.refusal.TextCause.TheVariants.{NoBar, BadParentheses, UnknownOperation, EmptyName, NameTooLong, LineTooLong, TooManyEvents, TooManyNames}
use Rattle.rapid_text.specs.declared.refusal.TextRefusal.{TextRefusal}
use Rattle.rapid_text.specs.Limits.{event_limit, thread_limit, line_limit, name_limit}
use Rattle.rapid_text.specs.Recording.{Recording}

-- a space, a tab or a carriage return
abbrev pub is_blank : ℕ → Bool
is_blank c = c == 32 || c == 9 || c == 13

-- the end of a line
abbrev pub is_line_feed : ℕ → Bool
is_line_feed c = c == 10

-- `|`
abbrev pub is_bar : ℕ → Bool
is_bar c = c == 124

-- `(`
abbrev pub is_open : ℕ → Bool
is_open c = c == 40

-- `)`
abbrev pub is_close : ℕ → Bool
is_close c = c == 41

-- the bytes without the blanks at both ends
abbrev pub trimmed : List ℕ → List ℕ
trimmed xs =
    let rest = drop (prefix_len is_blank xs) xs in
    take (length rest - suffix_len is_blank rest) rest

-- the word for each kind of operation
abbrev pub word_of : Kind → List ℕ
word_of Reads = codes "r"
word_of Writes = codes "w"
word_of Acquires = codes "acq"
word_of Releases = codes "rel"
word_of Forks = codes "fork"
word_of Joins = codes "join"

abbrev pub kinds : List Kind
kinds = Reads ∷ Writes ∷ Acquires ∷ Releases ∷ Forks ∷ Joins ∷ []

-- the kind with this word
abbrev pub kind_of : List ℕ → Option Kind
kind_of word = find (λ kind. bytes_eq word (word_of kind)) kinds

-- `begin` and `end` mark the bounds of an atomic block and are no events
abbrev pub is_mark : List ℕ → Bool
is_mark word = bytes_eq word (codes "begin") || bytes_eq word (codes "end")

-- one line's event, with names instead of numbers
pub record NamedEvent : Type 0 where
  pub thread : List ℕ
  pub kind : Kind
  pub name : List ℕ
  pub location : List ℕ

-- what one line means, regardless of the lines before it
pub data LineReading : Type 0 where
  Skipped : LineReading
  Refused : TextCause → LineReading
  Says : NamedEvent → LineReading

-- what a line with this thread, kind, name and location means; the kind is None if the word is unknown
abbrev pub named_reading : List ℕ → Option Kind → List ℕ → List ℕ → LineReading
named_reading thread None name location = Refused UnknownOperation
named_reading thread (Some kind) name location =
    if length thread == 0 || length name == 0
    then Refused EmptyName
    else (if nat_lt name_limit (length thread) || nat_lt name_limit (length name)
    then Refused NameTooLong
    else Says (record { thread = thread; kind = kind; name = name; location = location }))

-- what a line with this thread, operation `word(name)` and location means
abbrev pub operation_reading : List ℕ → List ℕ → List ℕ → LineReading
operation_reading thread operation location =
    if is_mark operation
    then Skipped
    else (if not (list_any is_open operation) || not (ends_with nat_eq operation (codes ")"))
    then Refused BadParentheses
    else (
    let word = trimmed (before_first is_open operation) in
    let name = trimmed (before_last is_close (after_first is_open operation)) in
    if is_mark word then Skipped else named_reading thread (kind_of word) name location))

-- what a line without blanks at its ends means
abbrev pub fields_reading : List ℕ → LineReading
fields_reading line =
    let rest = after_first is_bar line in
    operation_reading (trimmed (before_first is_bar line)) (trimmed (before_first is_bar rest)) (trimmed (after_first is_bar rest))

-- what the line means
abbrev pub line_reading : List ℕ → LineReading
line_reading raw =
    let line = trimmed raw in
    if length line == 0
    then Skipped
    else (if nat_lt line_limit (length line)
    then Refused LineTooLong
    else (if not (list_any is_bar line) then Refused NoBar else fields_reading line))

-- the event of a line, if the line has one
abbrev pub event_said : LineReading → Option NamedEvent
event_said (Says event) = Some event
event_said line = None

-- the events of the lines, in order
abbrev pub named_events : List (List ℕ) → List NamedEvent
named_events lines = filter_map (λ line. event_said (line_reading line)) lines

-- the operation's name, if the kind passes the test
abbrev pub name_where : (Kind → Bool) → NamedEvent → List (List ℕ)
name_where test event = if test event.kind then event.name ∷ [] else []

-- whether the operation's name is that of a variable, of a lock, of a thread
abbrev pub names_variable : Kind → Bool
names_variable Reads = true
names_variable Writes = true
names_variable kind = false

abbrev pub names_lock : Kind → Bool
names_lock Acquires = true
names_lock Releases = true
names_lock kind = false

abbrev pub names_thread : Kind → Bool
names_thread Forks = true
names_thread Joins = true
names_thread kind = false

-- the uses of threads, variables and locks by name; in a line, the thread comes before the operation's name
abbrev pub thread_uses : List NamedEvent → List (List ℕ)
thread_uses events = flat_map (λ event. event.thread ∷ name_where names_thread event) events

abbrev pub variable_uses : List NamedEvent → List (List ℕ)
variable_uses events = flat_map (name_where names_variable) events

abbrev pub lock_uses : List NamedEvent → List (List ℕ)
lock_uses events = flat_map (name_where names_lock) events

-- each name once, in the order of first use
abbrev pub first_uses : List (List ℕ) → List (List ℕ)
first_uses [] = []
first_uses (name ∷ names) = name ∷ filter (λ other. not (bytes_eq name other)) (first_uses names)

-- the number of a name: its position among the first uses
abbrev pub number_of : List (List ℕ) → List ℕ → ℕ
number_of names name = unwrap_or (position (λ other. bytes_eq name other) names) 0

-- the operation with a number instead of the name
abbrev pub numbered_op : List (List ℕ) → List (List ℕ) → List (List ℕ) → Kind → List ℕ → Op
numbered_op threads variables locks Reads name = Read (number_of variables name)
numbered_op threads variables locks Writes name = Write (number_of variables name)
numbered_op threads variables locks Acquires name = Acquire (number_of locks name)
numbered_op threads variables locks Releases name = Release (number_of locks name)
numbered_op threads variables locks Forks name = Fork (number_of threads name)
numbered_op threads variables locks Joins name = Join (number_of threads name)

abbrev pub numbered : List (List ℕ) → List (List ℕ) → List (List ℕ) → NamedEvent → Event
numbered threads variables locks event =
    record {
      thread = number_of threads event.thread;
      op = numbered_op threads variables locks event.kind event.name;
    }

-- the recording of these events; threads, variables and locks are numbered separately, each in the order of first use
abbrev pub recording_of : List NamedEvent → Recording
recording_of events =
    let threads = first_uses (thread_uses events) in
    let variables = first_uses (variable_uses events) in
    let locks = first_uses (lock_uses events) in
    record {
      events = map (numbered threads variables locks) events;
      threads = threads;
      variables = variables;
      locks = locks;
      locations = map (λ event. event.location) events;
    }

-- why a line after these events is refused, if it is
abbrev pub fault_after : List NamedEvent → LineReading → Option TextCause
fault_after earlier Skipped = None
fault_after earlier (Refused why) = Some why
fault_after earlier (Says event) =
    if nat_le event_limit (length earlier)
    then Some TooManyEvents
    else (if nat_lt thread_limit (length (first_uses (thread_uses (earlier ++ event ∷ []))))
    then Some TooManyNames
    else None)

-- the refusal of line i, if it is refused; the earlier lines give the earlier events. A refusal counts lines from 1
abbrev pub refusal_at : List (List ℕ) → ℕ → Option TextRefusal
refusal_at lines i =
    option_map
    (λ why. record { line = i + 1; why = why })
    (fault_after (named_events (take i lines)) (line_reading (slice_index_or lines i [])))

-- the refusals of all refused lines, in order
abbrev pub refusals_of : List (List ℕ) → List TextRefusal
refusals_of lines = filter_map (refusal_at lines) (range_with_len 0 (length lines))

abbrev pub reading_by : List (List ℕ) → List TextRefusal → Result Recording TextRefusal
reading_by lines [] = Ok (recording_of (named_events lines))
reading_by lines (first ∷ later) = Err first

-- what the text means: the recording of its lines' events, or the refusal of the first refused line
unfoldable pub reading_of : List ℕ → Result Recording TextRefusal
reading_of text = let lines = slice_split is_line_feed text in reading_by lines (refusals_of lines)
