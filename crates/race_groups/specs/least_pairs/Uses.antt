-- The first accesses of each place, which represent all its accesses, and what each row keeps while they are visited.
-- No public clause cites this module. `T` is the events of a trace, `r` is its recording; `place` has the place of each
-- event.
use Rattle.std.specs.Prelude.{◌≡◌, ◌≢◌, ◌⊎◌, ℕ, ◌<◌, ◌≤◌, true, Bool, List, [], ◌∷◌, ◌++◌, length, All, Option, Some, slice_get, slice_index, slice_set}
use Rattle.rapid_text.specs.Recording.{Recording}
use Rattle.rapid_text.specs.declared.event.Event.{Event}
use Rattle.race_groups.specs.Found.{AreComplete, AreOnce}
use Rattle.race_groups.specs.Kinds.{IsRow}
use Rattle.race_groups.specs.declared.kinds.Row.{Row}
use Rattle.race_groups.specs.least_pairs.Lanes.{access_op}
use Rattle.race_groups.specs.least_pairs.Taking.{HoldsUp}
use Rattle.race_groups.specs.least_pairs.Order.{IsUpTo}
use Rattle.race_groups.specs.least_pairs.Pairs.{AreAt, IsFit, IsPair, is_access_at}
use Rattle.race_groups.specs.declared.least_pairs.firsts.Places.{Places}
use Rattle.race_groups.specs.declared.least_pairs.uses.Of.{Of}
use Rattle.race_groups.specs.declared.least_pairs.uses.Use.{Use}
use Rattle.race_groups.specs.declared.least_pairs.wanted.Wanted.TheVariants.{Any as AnyKind}

-- the use is of this place, and of this kind of access
pub record IsAlike (at : ℕ) (writing : Bool) (u : Use) : Type 0 where
  pub located : u.place ≡ at
  pub writes : u.is_writing ≡ writing

-- The event is of this thread and of the use's place, and reads or writes the variable x as the use does.
pub record IsEventOf (T : List Event) (place : ℕ → ℕ) (x : ℕ) (u : Use) (f : Of) : Type 0 where
  pub event : slice_get T f.event ≡ Some (record { thread = f.thread; op = access_op u.is_writing x })
  pub located : place f.event ≡ u.place

-- The two events of a use belong to it.
pub record IsUse (T : List Event) (place : ℕ → ℕ) (x : ℕ) (u : Use) : Type 0 where
  pub first : IsEventOf T place x u u.first
  pub other : IsEventOf T place x u u.other

-- Event e of thread t is not before the first event. If it is of another thread than the first, it is not before the
-- other, and the other is of another thread than the first.
pub record IsCovered (u : Use) (e t : ℕ) : Type 0 where
  pub first : u.first.event ≤ e
  pub other : t ≢ u.first.thread → (u.other.event ≤ e) × (u.other.thread ≢ u.first.thread)

-- event e of thread t belongs to the use, and is covered by it
pub record IsOfUse (T : List Event) (place : ℕ → ℕ) (x : ℕ) (u : Use) (e t : ℕ) : Type 0 where
  pub event : IsEventOf T place x u (record { event = e; thread = t })
  pub covered : IsCovered u e t

-- event e belongs to one of the uses
pub record IsUsed (T : List Event) (place : ℕ → ℕ) (x : ℕ) (uses : List Use) (e : ℕ) : Type 0 where
  pub at : ℕ
  pub found : Use
  pub thread : ℕ
  pub is : slice_get uses at ≡ Some found
  pub of_use : IsOfUse T place x found e thread

-- The uses of the accesses `es` of the variable x.
pub record AreUses (T : List Event) (place : ℕ → ℕ) (x : ℕ) (es : List ℕ) (uses : List Use) : Type 0 where
  pub each : All (IsUse T place x) uses
  pub used : All (IsUsed T place x uses) es

-- the same for the trace and the places of `s`
abbrev pub IsUseOf : Places → ℕ → Use → Type 0
IsUseOf s = IsUse s.indexed.now.events (slice_index s.places.now)

abbrev pub AreUsesOf : Places → ℕ → List ℕ → List Use → Type 0
AreUsesOf s = AreUses s.indexed.now.events (slice_index s.places.now)

-- the uses of a list of accesses become the uses of that list and one more access
abbrev pub IsAccessNoted : Places → ℕ → ℕ → List Use → List Use → Type 0
IsAccessNoted s x e old new = (es : List ℕ) → AreUsesOf s x es old → AreUsesOf s x (es ++ e ∷ []) new

-- neither event of the use comes after event e
abbrev pub IsBehind : ℕ → Use → Type 0
IsBehind e u = (u.first.event ≤ e) × (u.other.event ≤ e)

-- no event of the uses comes after n, if none did before, and event e does not either
abbrev pub StayBehind : ℕ → List Use → List Use → Type 0
StayBehind e old new = (n : ℕ) → e ≤ n → All (IsBehind n) old → All (IsBehind n) new

-- The use v is the use u with one more event f.
pub record IsWidened (u : Use) (f : Of) (v : Use) : Type 0 where
  pub located : v.place ≡ u.place
  pub writes : v.is_writing ≡ u.is_writing
  pub first : v.first ≡ u.first
  pub other : (v.other ≡ u.other) ⊎ (v.other ≡ f)
  pub kept : (e t : ℕ) → IsCovered u e t → IsCovered v e t
  pub taken : IsBehind f.event u → IsCovered v f.event f.thread

-- the use at this index is of this place, and of this kind of access
abbrev pub IsUseAt : List Use → ℕ → Bool → ℕ → Type 0
IsUseAt uses at writing k = (u : Use) × (slice_get uses k ≡ Some u) × IsAlike at writing u

-- one of the uses got the event f
pub record IsUseWidened (at : ℕ) (writing : Bool) (f : Of) (old new : List Use) : Type 0 where
  pub number : ℕ
  pub had : Use
  pub has : Use
  pub there : slice_get old number ≡ Some had
  pub alike : IsAlike at writing had
  pub is : IsWidened had f has
  pub set : new ≡ slice_set old number has

-- the access f was added: as a new use, or to one that existed
abbrev pub IsUseNoted : ℕ → Bool → Of → List Use → List Use → Type 0
IsUseNoted at writing f old new =
    (new ≡ old ++ record { place = at; is_writing = writing; first = f; other = f } ∷ []) ⊎ IsUseWidened at writing f old new

-- all events of the use are of this thread
abbrev pub IsOwner : ℕ → Use → Type 0
IsOwner t u = (u.first.thread ≡ t) × (u.other.thread ≡ t)

-- From index i up to n, the uses are those of one thread, if the first is.
pub record IsRun (uses : List Use) (i n : ℕ) : Type 0 where
  pub more : i < n
  pub within : n ≤ length uses
  pub one : (t k : ℕ) (u v : Use) → i ≤ k → k < n → slice_get uses i ≡ Some u → slice_get uses k ≡ Some v → IsOwner t u → IsOwner t v

-- For each index, the end of the run of uses of one thread.
pub record AreRuns (uses : List Use) (runs : List ℕ) : Type 0 where
  pub len : length runs ≡ length uses
  pub each : (i : ℕ) → i < length uses → IsRun uses i (slice_index runs i)

-- p is the pair of the two events, which are of different threads
pub record IsPairOf (f g : Of) (p : ℕ × ℕ) : Type 0 where
  pub threads : f.thread ≢ g.thread
  pub either : ((p.0 ≡ f.event) × (p.1 ≡ g.event) × (g.event ≤ f.event)) ⊎ ((p.0 ≡ g.event) × (p.1 ≡ f.event) × (f.event ≤ g.event))

-- p is the pair of an event of one use and one of the other
pub record IsPairBetween (u v : Use) (p : ℕ × ℕ) : Type 0 where
  pub f : Of
  pub g : Of
  pub first : (f ≡ u.first) ⊎ (f ≡ u.other)
  pub second : (g ≡ v.first) ⊎ (g ≡ v.other)
  pub pair : IsPairOf f g p

-- the known pair is that of the two events, in the right order, or comes before it
abbrev pub HoldsEither : ℕ → ℕ → Option (ℕ × ℕ) → Type 0
HoldsEither e f known = (e < f → HoldsUp (f, e) known) × (f < e → HoldsUp (e, f) known)

-- the known pair comes no later than each pair of events of different threads that the two uses cover
abbrev pub HoldsBetween : Use → Use → Option (ℕ × ℕ) → Type 0
HoldsBetween u v known = (e f s t : ℕ) → IsCovered u e s → IsCovered v f t → s ≢ t → HoldsEither e f known

-- The rows are those of this trace.
pub record IsAsked (s : Places) : Type 0 where
  pub places : length s.places.now ≡ length s.indexed.now.events
  pub rows_are : All (IsRow s.indexed.now (slice_index s.places.now)) s.groups.now.rows.items
  pub complete : AreComplete s.indexed.now.events (slice_index s.places.now) s.groups.now.rows.items
  pub once : AreOnce s.groups.now.rows.items

-- What a row keeps is a conflicting pair of its places.
pub record AreFirsts (r : Recording) (place : ℕ → ℕ) (rows : List Row) (firsts : List (Option (ℕ × ℕ))) : Type 0 where
  pub len : length firsts ≡ length rows
  pub each : (at : ℕ) (row : Row) (p : ℕ × ℕ) → slice_get rows at ≡ Some row → slice_get firsts at ≡ Some (Some p)
      → IsFit r place row.places AnyKind p.1 p.0

-- The row of the two events keeps their pair, or one that comes before it.
pub record IsFirstHeld (place : ℕ → ℕ) (rows : List Row) (firsts : List (Option (ℕ × ℕ))) (a b : ℕ) : Type 0 where
  pub at : ℕ
  pub row : Row
  pub kept : ℕ × ℕ
  pub row_is : slice_get rows at ≡ Some row
  pub kept_is : slice_get firsts at ≡ Some (Some kept)
  pub there : AreAt place row.places a b
  pub up : IsUpTo kept (b, a)

-- Further pairs were added: each row keeps the same pair, or one that comes before it.
pub record AreFirstsNoted (r : Recording) (place : ℕ → ℕ) (rows : List Row) (old new : List (Option (ℕ × ℕ))) : Type 0 where
  pub firsts : AreFirsts r place rows new
  pub more : (at : ℕ) (p : ℕ × ℕ) → slice_get old at ≡ Some (Some p) → (q : ℕ × ℕ) × (slice_get new at ≡ Some (Some q)) × IsUpTo q p

-- All pairs of the two uses are held.
pub record AreUsesHeld (T : List Event) (place : ℕ → ℕ) (x : ℕ) (rows : List Row) (firsts : List (Option (ℕ × ℕ))) (u v : Use) : Type 0 where
  pub held : (e f s t : ℕ) → IsOfUse T place x u e s → IsOfUse T place x v f t → s ≢ t
      → (e < f → IsFirstHeld place rows firsts e f) × (f < e → IsFirstHeld place rows firsts f e)

-- all pairs of the variable x are held
abbrev pub AreFirstsHeld : List Event → (ℕ → ℕ) → List Row → ℕ → List (Option (ℕ × ℕ)) → Type 0
AreFirstsHeld T place rows x firsts = (a b : ℕ) → IsPair T a b → is_access_at T x a ≡ true → IsFirstHeld place rows firsts a b

-- the same for the trace, the places and the rows of `s`
abbrev pub HasFirsts : Places → List (Option (ℕ × ℕ)) → Type 0
HasFirsts s = AreFirsts s.indexed.now (slice_index s.places.now) s.groups.now.rows.items

abbrev pub HasNoted : Places → List (Option (ℕ × ℕ)) → List (Option (ℕ × ℕ)) → Type 0
HasNoted s = AreFirstsNoted s.indexed.now (slice_index s.places.now) s.groups.now.rows.items

abbrev pub HoldsPair : Places → List (Option (ℕ × ℕ)) → ℕ → ℕ → Type 0
HoldsPair s = IsFirstHeld (slice_index s.places.now) s.groups.now.rows.items

abbrev pub HoldsUses : Places → ℕ → List (Option (ℕ × ℕ)) → Use → Use → Type 0
HoldsUses s x = AreUsesHeld s.indexed.now.events (slice_index s.places.now) x s.groups.now.rows.items

abbrev pub HoldsVariable : Places → ℕ → List (Option (ℕ × ℕ)) → Type 0
HoldsVariable s = AreFirstsHeld s.indexed.now.events (slice_index s.places.now) s.groups.now.rows.items

-- if the use u writes, its pairs with all these uses are held
abbrev pub HoldsAllUses : Places → ℕ → List Use → List (Option (ℕ × ℕ)) → Use → Type 0
HoldsAllUses s x uses firsts u =
    u.is_writing ≡ true → (k : ℕ) (v : Use) → slice_get uses k ≡ Some v → HoldsUses s x firsts u v
