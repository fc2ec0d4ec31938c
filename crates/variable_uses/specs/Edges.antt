-- The first and the last access of a race in each thread. No public clause cites this module. `T` is the events of a
-- trace, named by their numbers; `is_race` says which events are accesses of the race.
use Rattle.std.specs.Prelude.{◌≡◌, ℕ, ◌<◌, ◌≤◌, ◌↔◌, Bool, true, false, List, IsTrue, Option, Some, length, set, slice_get}
use Rattle.std.specs.Option.{option_or}
use Rattle.rapid_text.specs.declared.event.Event.{Event}
use Rattle.event_index.specs.Events.{thread_at}
use Rattle.must_order.specs.MustBefore.{IsMustBefore}
use Rattle.variable_uses.specs.Numbers.{has_number}
use Rattle.variable_uses.specs.declared.order.Side.{Side}

-- each entry is an event
abbrev pub AreWithin : List Event → List (Option ℕ) → Type 0
AreWithin T table = (t f : ℕ) → slice_get table t ≡ Some (Some f) → f < length T

-- the tables after event n, which is an access of the race if the flag says so
pub data IsNoted (T : List Event) (n : ℕ) (flag : Bool) (firsts lasts begins ends : List (Option ℕ)) : Type 0 where
  other : flag ≡ false → begins ≡ firsts → ends ≡ lasts → IsNoted T n flag firsts lasts begins ends
  of_race :
      (t : ℕ) (o : Option ℕ) → flag ≡ true → thread_at T n ≡ Some t → t < length firsts → t < length lasts
      → slice_get firsts t ≡ Some o → begins ≡ set firsts t (option_or o (Some n)) → ends ≡ set lasts t (Some n)
      → IsNoted T n flag firsts lasts begins ends

-- each entry is an access of the race in its thread, among the first n events
abbrev pub AreOfRace : List Event → (ℕ → Bool) → ℕ → List (Option ℕ) → Type 0
AreOfRace T is_race n table = (t f : ℕ) → slice_get table t ≡ Some (Some f) → (f < n) × (thread_at T f ≡ Some t) × (is_race f ≡ true)

-- an entry of the thread that is not after d
pub record HasFirst (T : List Event) (firsts : List (Option ℕ)) (t d : ℕ) : Type 0 where
  pub first : ℕ
  pub at : slice_get firsts t ≡ Some (Some first)
  pub of : thread_at T first ≡ Some t
  pub le : first ≤ d

-- an entry of the thread that is not before d
pub record HasLast (T : List Event) (lasts : List (Option ℕ)) (t d : ℕ) : Type 0 where
  pub last : ℕ
  pub at : slice_get lasts t ≡ Some (Some last)
  pub of : thread_at T last ≡ Some t
  pub le : d ≤ last

-- the tables of the first n events
pub record AreEdges (T : List Event) (is_race : ℕ → Bool) (n : ℕ) (firsts lasts : List (Option ℕ)) : Type 0 where
  pub of_firsts : AreOfRace T is_race n firsts
  pub of_lasts : AreOfRace T is_race n lasts
  pub begins : (d t : ℕ) → d < n → is_race d ≡ true → thread_at T d ≡ Some t → HasFirst T firsts t d
  pub ends : (d t : ℕ) → d < n → is_race d ≡ true → thread_at T d ≡ Some t → HasLast T lasts t d

-- the event is must-before each entry
abbrev pub IsBeforeEdges : List Event → List (Option ℕ) → ℕ → Type 0
IsBeforeEdges T firsts e = (t f : ℕ) → slice_get firsts t ≡ Some (Some f) → IsMustBefore T e f

-- each entry is must-before the event
abbrev pub IsAfterEdges : List Event → List (Option ℕ) → ℕ → Type 0
IsAfterEdges T lasts e = (t f : ℕ) → slice_get lasts t ≡ Some (Some f) → IsMustBefore T f e

-- the sides of the rows, by the first n events
pub record AreSidesBefore (T : List Event) (numbers : List ℕ) (n : ℕ) (firsts lasts : List (Option ℕ)) (sides : List Side) : Type 0 where
  pub before : (k : ℕ) (s : Side) → slice_get sides k ≡ Some s → IsTrue s.is_before ↔ ((e : ℕ) → e < n → has_number numbers k e ≡ true → IsBeforeEdges T firsts e)
  pub after : (k : ℕ) (s : Side) → slice_get sides k ≡ Some s → IsTrue s.is_after ↔ ((e : ℕ) → e < n → has_number numbers k e ≡ true → IsAfterEdges T lasts e)
