-- How a recording grows by one event. No public clause cites this module.
use Rattle.std.specs.Prelude.{◌≡◌, ℕ, ◌<◌, ◌≤◌, nat_le, nat_lt, if◌then◌else◌, List, [], ◌∷◌, ◌++◌, length, map, All, Option, Some, None, position, bytes_eq, Vec}
use Rattle.std.specs.List.{list_any}
use Rattle.std.specs.HashSet.{HashSet}
use Rattle.rapid_text.specs.declared.event.Kind.{Kind}
use Rattle.rapid_text.specs.declared.event.Kind.TheVariants.{Reads, Writes, Acquires, Releases, Forks, Joins}
use Rattle.rapid_text.specs.declared.refusal.TextCause.{TextCause}
use Rattle.rapid_text.specs.declared.refusal.TextCause.TheVariants.{TooManyEvents, TooManyNames}
use Rattle.rapid_text.specs.Limits.{event_limit, thread_limit, name_count_limit}
use Rattle.rapid_text.specs.Reading.{NamedEvent, LineReading, Skipped, Refused, Says, numbered}
use Rattle.rapid_text.specs.Recording.{Recording, IsNamed}

-- the names in a table, in order
abbrev pub names_of : {A S : Type 0} → HashSet (Vec ℕ A) S → List (List ℕ)
names_of s = map (λ name. name.items) s.keys

-- the names with this name, which is appended if it is new
abbrev pub with_name : List (List ℕ) → List ℕ → List (List ℕ)
with_name names name = if list_any (bytes_eq name) names then names else names ++ name ∷ []

-- n is the number of the name
abbrev pub IsNumber : List (List ℕ) → List ℕ → ℕ → Type 0
IsNumber names name n = position (bytes_eq name) names ≡ Some n

-- the recording with the name of this thread
abbrev pub with_thread : Recording → List ℕ → Recording
with_thread r name = record r { threads = with_name r.threads name }

-- the recording with this name of an operation
abbrev pub with_operand : Recording → Kind → List ℕ → Recording
with_operand r Reads name = record r { variables = with_name r.variables name }
with_operand r Writes name = record r { variables = with_name r.variables name }
with_operand r Acquires name = record r { locks = with_name r.locks name }
with_operand r Releases name = record r { locks = with_name r.locks name }
with_operand r Forks name = record r { threads = with_name r.threads name }
with_operand r Joins name = record r { threads = with_name r.threads name }

-- the recording with both names of the event
abbrev pub with_names : Recording → NamedEvent → Recording
with_names r e = with_operand (with_thread r e.thread) e.kind e.name

-- the recording with the event at its end
abbrev pub with_event : Recording → NamedEvent → Recording
with_event r e =
    let s = with_names r e in
    record s {
      events = s.events ++ numbered s.threads s.variables s.locks e ∷ [];
      locations = s.locations ++ e.location ∷ [];
    }

-- the recording after a line that is not refused
abbrev pub with_line : Recording → LineReading → Recording
with_line r (Says e) = with_event r e
with_line r line = r

-- why the event is refused after this recording, if it is
abbrev pub fault_beyond : Recording → NamedEvent → Option TextCause
fault_beyond r e =
    if nat_le event_limit (length r.events)
    then Some TooManyEvents
    else (if nat_lt thread_limit (length (with_names r e).threads) then Some TooManyNames else None)

-- why the line is refused after this recording, if it is
abbrev pub line_fault : Recording → LineReading → Option TextCause
line_fault r Skipped = None
line_fault r (Refused why) = Some why
line_fault r (Says e) = fault_beyond r e

-- the tables are small enough for each number to be a u32
pub record HasRoom (r : Recording) : Type 0 where
  pub threads : length r.threads < name_count_limit
  pub variables : length r.variables < name_count_limit
  pub locks : length r.locks < name_count_limit

-- A recording within the limits, which has no more variables or locks than events.
pub record IsTight (r : Recording) : Type 0 where
  pub events : length r.events ≤ event_limit
  pub threads : length r.threads ≤ thread_limit
  pub variables : length r.variables ≤ length r.events
  pub locks : length r.locks ≤ length r.events
  pub locations : length r.locations ≡ length r.events
  pub named : All (IsNamed r) r.events
