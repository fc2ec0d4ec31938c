-- The accesses of a variable, by thread and kind of access. No public clause cites this module. `T` is the events of
-- a trace; `numbers` has the number of each event's class.
use Rattle.std.specs.Prelude.{◌≡◌, ℕ, ◌<◌, ◌≤◌, true, Bool, List, length, filter, All, Contains, IfSome, slice_get, slice_index, Some, Vec}
use Rattle.std.specs.declared.alloc.Global.{Global}
use Rattle.rapid_text.specs.Recording.{Recording}
use Rattle.rapid_text.specs.declared.event.Event.{Event}
use Rattle.rapid_text.specs.declared.event.Op.{Op}
use Rattle.rapid_text.specs.declared.event.Op.TheVariants.{Read, Write}
use Rattle.event_index.specs.Lookups.{before, place_of}
use Rattle.race_groups.specs.least_pairs.Pairs.{is_access_at}
use Rattle.race_groups.specs.declared.least_pairs.lanes.Bunch.{Bunch}
use Rattle.race_groups.specs.declared.least_pairs.lanes.Lane.{Lane}
use Rattle.race_groups.specs.declared.least_pairs.lanes.Later.{Later}

-- For each variable its accesses, in the order of the trace.
abbrev pub AreAccesses : List Event → ℕ → List (Vec ℕ Global) → Type 0
AreAccesses T n accesses = (x : ℕ) (v : Vec ℕ Global) → slice_get accesses x ≡ Some v → v.items ≡ filter (is_access_at T x) (before n)

-- the same for all events of a trace
abbrev pub AreAllAccesses : Recording → List (Vec ℕ Global) → Type 0
AreAllAccesses r = AreAccesses r.events (length r.events)

-- a write of the variable, or a read of it
abbrev pub access_op : Bool → ℕ → Op
access_op true x = Write x
access_op writing x = Read x

-- event e is of the lane's thread, and reads or writes the variable x, as the lane's events do
abbrev pub IsInLane : List Event → ℕ → Lane → ℕ → Type 0
IsInLane T x l e = slice_get T e ≡ Some (record { thread = l.thread; op = access_op l.is_writing x })

-- each number is less than those after it
abbrev pub IsRising : List ℕ → Type 0
IsRising xs = (i k : ℕ) → i < k → k < length xs → slice_index xs i < slice_index xs k

-- Some events of the list, in rising order, all of one class.
pub record IsBunch (numbers events : List ℕ) (g : Bunch) : Type 0 where
  pub rising : IsRising g.events.items
  pub among : All (Contains events) g.events.items
  pub of_class : All (λ e. slice_index numbers e ≡ g.class) g.events.items

-- event e is in one of the bunches
pub record IsInBunches (bunches : List Bunch) (e : ℕ) : Type 0 where
  pub bunch : Bunch
  pub among : Contains bunches bunch
  pub at : Contains bunch.events.items e

-- Events of one thread that all read the variable x, or all write it, in rising order, with their indices in the
-- thread. Each is in a bunch.
pub record IsPlain (T : List Event) (numbers : List ℕ) (x : ℕ) (l : Lane) : Type 0 where
  pub events : All (IsInLane T x l) l.events.items
  pub rising : IsRising l.events.items
  pub places_len : length l.places.items ≡ length l.events.items
  pub places : (k : ℕ) → k < length l.events.items → slice_index l.places.items k ≡ place_of T (slice_index l.events.items k)
  pub last : All (λ p. p ≤ l.last) l.places.items
  pub bunches : All (IsBunch numbers l.events.items) l.bunches.items
  pub covered : All (IsInBunches l.bunches.items) l.events.items

-- event e is in one of the lanes
pub record IsInLanes (lanes : List Lane) (e : ℕ) : Type 0 where
  pub lane : Lane
  pub among : Contains lanes lane
  pub at : Contains lane.events.items e

-- event e has the thread and the operation of this one
abbrev pub DoesSame : List Event → Later → ℕ → Type 0
DoesSame T l e = slice_get T e ≡ Some (record { thread = l.thread; op = access_op l.is_writing l.variable })

-- An event before this one, with the same thread and operation, and of the same class.
pub record IsPrevious (T : List Event) (numbers : List ℕ) (l : Later) (p : ℕ) : Type 0 where
  pub before : p < l.event
  pub same : DoesSame T l p
  pub of_class : slice_index numbers p ≡ slice_index numbers l.event

-- an access of the variable, and perhaps such an access before it
pub record IsLater (T : List Event) (numbers : List ℕ) (l : Later) : Type 0 where
  pub here : DoesSame T l l.event
  pub previous : IfSome l.previous (IsPrevious T numbers l)
