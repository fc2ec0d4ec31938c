-- The lanes of a variable in progress. No public clause cites this module. `T` is the events of a trace; `numbers`
-- has the number of each event's class.
use Rattle.std.specs.Prelude.{◌≡◌, ◌⊎◌, ℕ, ◌<◌, ◌≤◌, Bool, List, [], ◌∷◌, ◌++◌, All, Contains, slice_get, Some}
use Rattle.rapid_text.specs.declared.event.Event.{Event}
use Rattle.race_groups.specs.least_pairs.Lanes.{IsPlain}
use Rattle.race_groups.specs.declared.least_pairs.lanes.Access.{Access}
use Rattle.race_groups.specs.declared.least_pairs.lanes.Bunch.{Bunch}
use Rattle.race_groups.specs.declared.least_pairs.lanes.Lane.{Lane}

-- a plain lane of events below n
pub record IsBegun (T : List Event) (numbers : List ℕ) (x n : ℕ) (l : Lane) : Type 0 where
  pub plain : IsPlain T numbers x l
  pub below : All (λ e. e < n) l.events.items

abbrev pub AreBegun : List Event → List ℕ → ℕ → ℕ → List Lane → Type 0
AreBegun T numbers x n lanes = (k : ℕ) (l : Lane) → slice_get lanes k ≡ Some l → IsBegun T numbers x n l

-- The lane at this index is of this thread, and for writes or for reads.
pub record IsLaneOf (lanes : List Lane) (number thread : ℕ) (is_writing : Bool) : Type 0 where
  pub lane : Lane
  pub at : slice_get lanes number ≡ Some lane
  pub thread_is : lane.thread ≡ thread
  pub writing_is : lane.is_writing ≡ is_writing

-- An empty lane was appended.
pub record IsLaneAdded (old new : List Lane) : Type 0 where
  pub lane : Lane
  pub events : lane.events.items ≡ []
  pub places : lane.places.items ≡ []
  pub bunches : lane.bunches.items ≡ []
  pub added : new ≡ old ++ lane ∷ []

-- the lanes are the same as before, or one was appended
abbrev pub AreLanesGrown : List Lane → List Lane → Type 0
AreLanesGrown old new = (new ≡ old) ⊎ IsLaneAdded old new

-- The bunch at this index is of this class.
pub record IsBunchOf (bunches : List Bunch) (number class : ℕ) : Type 0 where
  pub bunch : Bunch
  pub at : slice_get bunches number ≡ Some bunch
  pub class_is : bunch.class ≡ class

-- An empty bunch of this class was appended.
pub record IsBunchAdded (class : ℕ) (old new : List Bunch) : Type 0 where
  pub bunch : Bunch
  pub class_is : bunch.class ≡ class
  pub events : bunch.events.items ≡ []
  pub added : new ≡ old ++ bunch ∷ []

-- the bunches are the same as before, or one was appended
abbrev pub AreBunchesGrown : ℕ → List Bunch → List Bunch → Type 0
AreBunchesGrown class old new = (new ≡ old) ⊎ IsBunchAdded class old new

-- event e is in a bunch of this class
pub record IsOfBunch (bunches : List Bunch) (class e : ℕ) : Type 0 where
  pub bunch : Bunch
  pub among : Contains bunches bunch
  pub class_is : bunch.class ≡ class
  pub at : Contains bunch.events.items e

-- One bunch, which may be new, has one more event, and is of this class.
pub record AreBunchesMore (class event : ℕ) (old new : List Bunch) : Type 0 where
  pub number : ℕ
  pub was : Bunch
  pub more : Bunch
  pub class_is : was.class ≡ class
  pub same_class : more.class ≡ was.class
  pub added : more.events.items ≡ was.events.items ++ event ∷ []
  pub there : slice_get new number ≡ Some more
  -- the bunch existed before, or was empty
  pub known : Contains old was ⊎ (was.events.items ≡ [])
  pub each : (k : ℕ) (g : Bunch) → slice_get new k ≡ Some g → (g ≡ more) ⊎ (Contains old g ⊎ (g.events.items ≡ []))
  pub kept : (g : Bunch) → Contains old g → Contains new g ⊎ (g ≡ was)

-- The lane has one more event.
pub record IsEventAdded (a : Access) (old new : Lane) : Type 0 where
  pub thread : new.thread ≡ old.thread
  pub is_writing : new.is_writing ≡ old.is_writing
  pub events : new.events.items ≡ old.events.items ++ a.event ∷ []
  pub places : new.places.items ≡ old.places.items ++ a.place ∷ []
  pub last : (old.last ≤ new.last) × (a.place ≤ new.last)
  pub bunches : AreBunchesMore a.class a.event old.bunches.items new.bunches.items
