-- The canonical text of a recording, as the canonical lines of the events that it was made from.
use Rattle.std.proofs.Common.{◌≡◌, ℕ, Bool, true, false, List, [], ◌∷◌, ◌++◌, map, codes, flat_map, All, if◌then◌else◌, slice_index_or, refl, ap, ◌∙◌, append_assoc}
use Rattle.std.specs.List.{slice_split, cons_option}
use Rattle.std.proofs.lemmas.Bool.{or_left, or_right}
use Rattle.std.proofs.lemmas.List.Elements.{All-head, All-tail}
use Rattle.std.proofs.lemmas.List.Splits.{slice_split_at}
use Rattle.rapid_text.specs.declared.event.Kind.{Kind}
use Rattle.rapid_text.specs.declared.event.Kind.TheVariants.{Reads, Writes, Acquires, Releases, Forks, Joins}
use Rattle.rapid_text.specs.Canonical.{name_at, op_text, event_text, events_text, canonical_text}
use Rattle.rapid_text.specs.Reading.{number_of, is_line_feed, names_variable, names_lock, names_thread, NamedEvent, event_said, named_events, name_where, thread_uses, variable_uses, lock_uses, numbered_op, numbered, recording_of}
use Rattle.rapid_text.specs.Recording.{Recording}
use Rattle.rapid_text.proofs.Cuts.{Fails}
use Rattle.rapid_text.proofs.NameNumbers.{has, bytes_eq-refl, name_at-number_of, has-first_uses, uses-each}
use Rattle.rapid_text.proofs.PrintedLines.{ReadsBack, op_line, line_of}

-- the canonical lines of these events, each with its line feed
abbrev pub lines_text : List NamedEvent → List ℕ
lines_text events = flat_map (λ event. line_of event ++ 10 ∷ []) events

-- the recording has the names that the event uses
record IsKnown (r : Recording) (event : NamedEvent) : Type 0 where
  thread : has r.threads event.thread ≡ true
  of_thread : names_thread event.kind ≡ true → has r.threads event.name ≡ true
  of_variable : names_variable event.kind ≡ true → has r.variables event.name ≡ true
  of_lock : names_lock event.kind ≡ true → has r.locks event.name ≡ true

-- a name by its number, between a word with its parenthesis and the other parenthesis
called : (word : List ℕ) (names : List (List ℕ)) (name : List ℕ) → has names name ≡ true
    → word ++ name_at names (number_of names name) ++ codes ")" ≡ word ++ name ++ codes ")"
called word names name known = ap (λ (xs : List ℕ). word ++ xs ++ codes ")") (name_at-number_of names name known)

-- an operation by number is printed with its name
op_text-numbered : (r : Recording) (kind : Kind) (name : List ℕ)
    → (names_thread kind ≡ true → has r.threads name ≡ true)
    → (names_variable kind ≡ true → has r.variables name ≡ true)
    → (names_lock kind ≡ true → has r.locks name ≡ true)
    → op_text r (numbered_op r.threads r.variables r.locks kind name) ≡ op_line kind name
op_text-numbered r Reads name thread variable lock = called (codes "r(") r.variables name (variable refl)
op_text-numbered r Writes name thread variable lock = called (codes "w(") r.variables name (variable refl)
op_text-numbered r Acquires name thread variable lock = called (codes "acq(") r.locks name (lock refl)
op_text-numbered r Releases name thread variable lock = called (codes "rel(") r.locks name (lock refl)
op_text-numbered r Forks name thread variable lock = called (codes "fork(") r.threads name (thread refl)
op_text-numbered r Joins name thread variable lock = called (codes "join(") r.threads name (thread refl)

-- the parts of a line, grouped from the left and from the right
regroup : (thread op location : List ℕ)
    → thread ++ codes "|" ++ op ++ codes "|" ++ location ++ codes "\n" ≡ (thread ++ 124 ∷ (op ++ 124 ∷ location)) ++ 10 ∷ []
regroup thread op location = simp append_assoc

-- an event by number is printed as its canonical line
event_text-numbered : (r : Recording) (event : NamedEvent) → IsKnown r event
    → event_text r (numbered r.threads r.variables r.locks event) event.location ≡ line_of event ++ 10 ∷ []
event_text-numbered r event known =
    let op = op_text r (numbered_op r.threads r.variables r.locks event.kind event.name) in
    let line = λ (thread : List ℕ) (op : List ℕ). thread ++ codes "|" ++ op ++ codes "|" ++ event.location ++ codes "\n" in
    ap (λ (xs : List ℕ). line xs op) (name_at-number_of r.threads event.thread known.thread)
    ∙ ap (line event.thread) (op_text-numbered r event.kind event.name known.of_thread known.of_variable known.of_lock)
    ∙ regroup event.thread (op_line event.kind event.name) event.location

-- the events by number, each at its location, are printed as their canonical lines
events_text-numbered : (r : Recording) (events : List NamedEvent) → All (IsKnown r) events
    → events_text r (map (numbered r.threads r.variables r.locks) events) (map (λ event. event.location) events) ≡ lines_text events
events_text-numbered r [] known = refl
events_text-numbered r (event ∷ events) known =
    ap (λ (xs : List ℕ). xs ++ events_text r (map (numbered r.threads r.variables r.locks) events) (map (λ event. event.location) events)) (event_text-numbered r event (All-head (IsKnown r) event events known))
    ∙ ap (λ (xs : List ℕ). (line_of event ++ 10 ∷ []) ++ xs) (events_text-numbered r events (All-tail (IsKnown r) event events known))

-- the name of an operation is among its uses, where the kind passes the test
has-name_where : (b : Bool) (name : List ℕ) → b ≡ true → has (if b then name ∷ [] else []) name ≡ true
has-name_where true name passes = or_left _ false (bytes_eq-refl name)
has-name_where false name passes = cc

-- the recording of events has the names that they use
IsKnown-recording_of : (events : List NamedEvent) → All (IsKnown (recording_of events)) events
IsKnown-recording_of events k d lt =
    let thread_use = λ (event : NamedEvent). event.thread ∷ name_where names_thread event in
    let of_threads = uses-each thread_use events k d lt in
    let of_variables = uses-each (name_where names_variable) events k d lt in
    let of_locks = uses-each (name_where names_lock) events k d lt in
    let event = slice_index_or events k d in
    record {
      thread = has-first_uses (thread_uses events) event.thread (of_threads event.thread (or_left _ _ (bytes_eq-refl event.thread)));
      of_thread = λ passes. has-first_uses (thread_uses events) event.name (of_threads event.name (or_right _ _ (has-name_where (names_thread event.kind) event.name passes)));
      of_variable = λ passes. has-first_uses (variable_uses events) event.name (of_variables event.name (has-name_where (names_variable event.kind) event.name passes));
      of_lock = λ passes. has-first_uses (lock_uses events) event.name (of_locks event.name (has-name_where (names_lock event.kind) event.name passes));
    }

-- the canonical text of the recording of events is their canonical lines
pub canonical_text-recording_of : (events : List NamedEvent)
    → canonical_text (recording_of events) ≡ lines_text events
unfolding canonical_text
canonical_text-recording_of events = events_text-numbered (recording_of events) events (IsKnown-recording_of events)

-- cut at its line feeds, it is these lines and an empty last one
pub slice_split-lines_text : (events : List NamedEvent)
    → All (λ event. All (Fails is_line_feed) (line_of event)) events
    → slice_split is_line_feed (lines_text events) ≡ map line_of events ++ [] ∷ []
slice_split-lines_text [] clear = refl
slice_split-lines_text (event ∷ events) clear =
    ap (slice_split is_line_feed) (append_assoc (line_of event) (10 ∷ []) (lines_text events))
    ∙ slice_split_at is_line_feed (line_of event) 10 (lines_text events) (All-head (λ event. All (Fails is_line_feed) (line_of event)) event events clear) refl
    ∙ ap (λ (parts : List (List ℕ)). line_of event ∷ parts) (slice_split-lines_text events (All-tail (λ event. All (Fails is_line_feed) (line_of event)) event events clear))

-- the events that these lines ask for
pub named_events-lines : (events : List NamedEvent) → All ReadsBack events
    → named_events (map line_of events ++ [] ∷ []) ≡ events
named_events-lines [] read = refl
named_events-lines (event ∷ events) read =
    ap (λ reading. cons_option (event_said reading) (named_events (map line_of events ++ [] ∷ []))) (All-head ReadsBack event events read)
    ∙ ap (λ (later : List NamedEvent). event ∷ later) (named_events-lines events (All-tail ReadsBack event events read))
