-- A search that starts from a row and makes no list. Of the public clauses only those of `turned_size` cite this
-- module. `T` is the events of a trace. A row counts, for each thread, its first events.
use Rattle.std.specs.Prelude.{◌≡◌, ◌≢◌, ◌⊎◌, ◌↔◌, ℕ, ◌<◌, ◌≤◌, ◌+◌, nat_lt, Bool, false, Vec, List, length, map, count_by, slice_get, slice_index, Option, Some, None, IfSome, AllPairs, Contains}
use Rattle.std.specs.Global.{Global}
use Rattle.rapid_text.specs.Recording.{Recording}
use Rattle.rapid_text.specs.declared.event.Event.{Event}
use Rattle.rapid_text.specs.declared.event.Op.TheVariants.{Write}
use Rattle.event_index.specs.Events.{op_at, thread_at, is_of_thread}
use Rattle.event_index.specs.Lookups.{before, events_of, place_of, last_write, section_end}
use Rattle.event_index.specs.Relations.{IsConflicting}
use Rattle.must_order.specs.Layout.{IsCounted}
use Rattle.schedule.specs.Refusals.{next_of}
use Rattle.schedule.specs.Reordering.{IsCorrectReordering, StandsAfterFork, SeesItsWriter, FindsLockFree, JoinsEnded}
use Rattle.witness_search.specs.Layout.{kept}
use Rattle.witness_search.specs.Wanted.{IsWanted}
use Rattle.witness_search.specs.trace_order.Acquires.{IsTaken}
use Rattle.witness_search.specs.trace_order.InOrder.{IsBaseOfPair}
use Rattle.witness_search.specs.trace_order.Joining.{IsDownClosed}
use Rattle.witness_search.specs.trace_order.Layout.{IsListLength}
use Rattle.witness_search.specs.trace_order.Orders.{IsSearchedTwice, IsTurned}
use Rattle.witness_search.specs.trace_order.Sizes.{HasSize}
use Rattle.schedule.specs.Shows.{Shows}

-- A row of wanted events in progress. It counts the bases of the pair, and all that it counts is wanted. With each
-- event it counts what is must-before that event.
pub record IsSeeking (T : List Event) (a b : ℕ) (row : ℕ → ℕ) : Type 0 where
  pub starts : (c : ℕ) → IsBaseOfPair T a b c → IsCounted T row c
  pub sound : (e : ℕ) → IsCounted T row e → IsWanted T a b e
  pub down : IsDownClosed T row
  pub within : (t : ℕ) → row t ≤ length (events_of T t)

-- the row counts exactly the wanted events
abbrev pub IsWantedRow : List Event → ℕ → ℕ → (ℕ → ℕ) → Type 0
IsWantedRow T a b row = (e : ℕ) → IsCounted T row e ↔ IsWanted T a b e

-- r ends a section whose beginning the row counts, and the row does not count r
pub record IsAhead (T : List Event) (row : ℕ → ℕ) (r : ℕ) : Type 0 where
  pub start : ℕ
  pub has : IsCounted T row start
  pub ends : section_end T start ≡ Some r
  pub missing : ¬ IsCounted T row r

-- for the thread's counted acquires, the row counts the ends of their sections
abbrev pub IsEndedIn : List Event → (ℕ → ℕ) → ℕ → Type 0
IsEndedIn T row t = (p k : ℕ) → thread_at T p ≡ Some t → IsCounted T row p → section_end T p ≡ Some k → IsCounted T row k

-- thread u holds the lock after the row's events: the row counts the beginning of a section, and not its end
abbrev pub IsHolding : List Event → (ℕ → ℕ) → ℕ → ℕ → Type 0
IsHolding T row l u =
    (p : ℕ) × IsTaken T l u p × IsCounted T row p × ((k : ℕ) → section_end T p ≡ Some k → ¬ IsCounted T row k)

-- a thread other than t holds the lock
abbrev pub IsHeldByOther : List Event → (ℕ → ℕ) → ℕ → ℕ → Type 0
IsHeldByOther T row l t = (u : ℕ) × (u ≢ t) × IsHolding T row l u

abbrev pub counts_by : List Event → (ℕ → ℕ) → ℕ → Option Event → Bool
counts_by T row e None = false
counts_by T row e (Some v) = nat_lt (place_of T e) (row v.thread)

-- whether the row counts the event
abbrev pub counts : List Event → (ℕ → ℕ) → ℕ → Bool
counts T row e = counts_by T row e (slice_get T e)

-- for each event, whether the row counts it
abbrev pub marks_of : List Event → (ℕ → ℕ) → List Bool
marks_of T row = map (counts T row) (before (length T))

-- the events that the row counts, in the order of the trace
abbrev pub counted_events : List Event → (ℕ → ℕ) → List ℕ
counted_events T row = kept (counts T row) (length T)

-- The state of a search is P, a correct reordering. The row counts the events of P. A variable's noted write is its
-- last write in P. For a variable without a note, the last write in P is that among the events that `start` counts.
pub record IsAt (T : List Event) (start row : ℕ → ℕ) (last : ℕ → Option (Option ℕ)) (P : List ℕ) : Type 0 where
  pub correct : IsCorrectReordering T P
  pub counts : (t : ℕ) → row t ≡ count_by (is_of_thread T t) P
  pub within : (t : ℕ) → row t ≤ length (events_of T t)
  pub size : IsListLength T row (length P)
  pub noted : (x : ℕ) (o : Option ℕ) → last x ≡ Some o → last_write T x P ≡ o
  pub other : (x : ℕ) → last x ≡ None → last_write T x P ≡ last_write T x (counted_events T start)

-- the notes after event e is taken: e is noted for the variable that it writes; other notes stay
abbrev pub IsNoted : List Event → ℕ → (ℕ → Option (Option ℕ)) → (ℕ → Option (Option ℕ)) → Type 0
IsNoted T e last next =
    ((x : ℕ) × (op_at T e ≡ Some (Write x)) × (next x ≡ Some (Some e)) × ((y : ℕ) → y ≢ x → next y ≡ last y))
    ⊎ (((x : ℕ) → op_at T e ≢ Some (Write x)) × ((y : ℕ) → next y ≡ last y))

-- notes may be added: for variables without a note, their last writes among the events that the start counts
pub record IsKept (T : List Event) (start : ℕ → ℕ) (last next : ℕ → Option (Option ℕ)) : Type 0 where
  pub noted :
      (x : ℕ) (o : Option ℕ) → next x ≡ Some o
      → (last x ≡ Some o) ⊎ ((last x ≡ None) × (o ≡ last_write T x (counted_events T start)))
  pub none : (x : ℕ) → next x ≡ None → last x ≡ None

-- the new row counts event e in its thread, and nothing else is new
pub record IsUp (T : List Event) (e : ℕ) (row new : ℕ → ℕ) : Type 0 where
  pub thread : ℕ
  pub of : thread_at T e ≡ Some thread
  pub here : new thread ≡ row thread + 1
  pub others : (u : ℕ) → u ≢ thread → new u ≡ row u

-- The searches find a list of n events, of k threads.
pub record IsTurnedOfSize (T : List Event) (a b budget : ℕ) (told : ℕ × ℕ) : Type 0 where
  pub list : List ℕ
  pub turned : IsTurned T a b budget (Some list)
  pub reordering : IsCorrectReordering T list
  pub shows : Shows T list a b
  pub size : HasSize T list told.0 told.1

-- the result of the searches, if there is one, has such a size
abbrev pub SizeIfTurned : List Event → ℕ → ℕ → ℕ → Option (ℕ × ℕ) → Type 0
SizeIfTurned T a b budget found = IfSome found (IsTurnedOfSize T a b budget)

-- the searches find nothing, and `left` of their `budget` steps are not taken
abbrev pub IsLeft : List Event → ℕ → ℕ → ℕ → ℕ → Type 0
IsLeft T a b budget left = IsSearchedTwice T a b budget None left

-- if the two conflict, `left` steps are not taken
abbrev pub IsLeftOf : List Event → ℕ → ℕ → ℕ → ℕ → Type 0
IsLeftOf T a b budget left = IsConflicting T a b → IsLeft T a b budget left

-- the operation of event e is possible after P
pub record IsFree (T : List Event) (P : List ℕ) (e : ℕ) : Type 0 where
  pub writer : SeesItsWriter T P e
  pub lock : FindsLockFree T P e
  pub ended : JoinsEnded T P e
