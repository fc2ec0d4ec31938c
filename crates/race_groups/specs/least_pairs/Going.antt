-- What holds while the variables are visited. No public clause cites this module. `r` is a recording; `place` has the
-- place of each event. `rows` are the rows of all pairs of places, and `most` is the most open pairs that are kept.
use Rattle.std.specs.Prelude.{◌≡◌, ◌≢◌, ◌⊎◌, ℕ, ◌+◌, ◌%◌, ◌<◌, ◌≤◌, ◌||◌, true, false, Bool, List, length, All, Contains, Some, slice_get, slice_index, Vec}
use Rattle.std.specs.declared.alloc.Global.{Global}
use Rattle.rapid_text.specs.Recording.{Recording, IsWellFormed}
use Rattle.trace_rules.specs.Rules.{IsDisciplined}
use Rattle.rapid_text.specs.declared.event.Event.{Event}
use Rattle.event_index.specs.Lookups.{place_of}
use Rattle.must_order.specs.Kinds.{IsKind}
use Rattle.must_order.specs.MustBefore.{IsForced}
use Rattle.must_order.specs.declared.kind.Kind.{Kind}
use Rattle.must_order.specs.declared.kind.Kind.TheVariants.{Candidate as CandidateKind, Open as OpenKind}
use Rattle.race_groups.specs.Classes.{is_kept_pair}
use Rattle.race_groups.specs.Cuts.{IsCutOf}
use Rattle.race_groups.specs.Ends.{IsKnownBefore, known_before, counted_before}
use Rattle.race_groups.specs.Shared.{keeps_shared}
use Rattle.race_groups.specs.declared.class.Class.{Class}
use Rattle.race_groups.specs.declared.kinds.Row.{Row}
use Rattle.shb_clocks.specs.SharedRows.{len_of}
use Rattle.race_groups.specs.least_pairs.Lanes.{IsLater}
use Rattle.race_groups.specs.least_pairs.Making.{IsBegun}
use Rattle.race_groups.specs.least_pairs.Taking.{HoldsTry, HoldsUp}
use Rattle.race_groups.specs.least_pairs.Noting.{IsMore, IsSoFar}
use Rattle.race_groups.specs.least_pairs.Pairs.{AreAt, AreGroups, IsOf, IsPair, is_access_at}
use Rattle.race_groups.specs.least_pairs.Windows.{of_window}
use Rattle.race_groups.specs.declared.least_pairs.lanes.Bunch.{Bunch}
use Rattle.race_groups.specs.declared.least_pairs.lanes.Lane.{Lane}
use Rattle.race_groups.specs.declared.least_pairs.lanes.Later.{Later}
use Rattle.race_groups.specs.declared.least_pairs.least.Least.{Least}
use Rattle.race_groups.specs.declared.least_pairs.leasts.Search.{Search}
use Rattle.race_groups.specs.declared.least_pairs.leasts.Sought.{Sought}
use Rattle.race_groups.specs.declared.least_pairs.leasts.Sought.TheVariants.{Candidates, Opens}
use Rattle.race_groups.specs.declared.least_pairs.windows.Window.{Window}
use Rattle.race_groups.specs.declared.least_pairs.tries.Between.{Between}

-- For each row, the findings so far on the variables with P.
pub record AreSoFar (r : Recording) (place : ℕ → ℕ) (rows : List Row) (most : ℕ) (P : ℕ → Type 0) (x : ℕ) (leasts : List Least) : Type 0 where
  pub len : length leasts ≡ length rows
  pub each : (at : ℕ) (row : Row) (l : Least) → slice_get rows at ≡ Some row → slice_get leasts at ≡ Some l → IsSoFar r place row.places most P x l

-- What each row held, it still holds.
pub record AreMore (most x : ℕ) (old new : List Least) : Type 0 where
  pub len : length new ≡ length old
  pub each : (at : ℕ) (l m : Least) → slice_get old at ≡ Some l → slice_get new at ≡ Some m → IsMore most x l m

-- The row of the two events holds their pair as a candidate, or one that comes before it.
pub record IsCandidateHeld (place : ℕ → ℕ) (rows : List Row) (leasts : List Least) (a b : ℕ) : Type 0 where
  pub at : ℕ
  pub row : Row
  pub found : Least
  pub row_is : slice_get rows at ≡ Some row
  pub found_is : slice_get leasts at ≡ Some found
  pub there : AreAt place row.places a b
  pub holds : HoldsUp (b, a) found.candidate

-- The same as an open pair, if the row has no candidate.
pub record IsOpenHeld (place : ℕ → ℕ) (rows : List Row) (most : ℕ) (leasts : List Least) (of : Between) (a b : ℕ) : Type 0 where
  pub at : ℕ
  pub row : Row
  pub found : Least
  pub row_is : slice_get rows at ≡ Some row
  pub found_is : slice_get leasts at ≡ Some found
  pub there : AreAt place row.places a b
  pub holds : (0 < row.counts.candidates) ⊎ HoldsTry most of (b, a) found.tries.items

-- The row of the two events has counted the variable x.
pub record IsVariableHeld (place : ℕ → ℕ) (rows : List Row) (x : ℕ) (leasts : List Least) (a b : ℕ) : Type 0 where
  pub at : ℕ
  pub row : Row
  pub found : Least
  pub row_is : slice_get rows at ≡ Some row
  pub found_is : slice_get leasts at ≡ Some found
  pub there : AreAt place row.places a b
  pub last : found.last ≡ Some x

-- The pair is held, if it is a candidate or open.
pub record IsHeld (r : Recording) (place : ℕ → ℕ) (rows : List Row) (most : ℕ) (leasts : List Least) (a b : ℕ) : Type 0 where
  pub candidate : IsKind r a b CandidateKind → IsCandidateHeld place rows leasts a b
  pub opens : (of : Between) → IsOf r.events of a b → IsKind r a b OpenKind → IsOpenHeld place rows most leasts of a b

-- and the variable x is counted for it
pub record IsTaken (r : Recording) (place : ℕ → ℕ) (rows : List Row) (most x : ℕ) (leasts : List Least) (a b : ℕ) : Type 0 where
  pub held : IsHeld r place rows most leasts a b
  pub counted : IsKind r a b CandidateKind ⊎ IsKind r a b OpenKind → IsVariableHeld place rows x leasts a b

-- all pairs of the variable are taken
abbrev pub AreAllTaken : Recording → (ℕ → ℕ) → List Row → ℕ → ℕ → List Least → Type 0
AreAllTaken r place rows most x leasts =
    (a b : ℕ) → IsPair r.events a b → is_access_at r.events x a ≡ true → IsTaken r place rows most x leasts a b

-- all pairs of the variables below x with P are held
abbrev pub AreHeldBelow : Recording → (ℕ → ℕ) → List Row → ℕ → (ℕ → Type 0) → ℕ → List Least → Type 0
AreHeldBelow r place rows most P x leasts =
    (y a b : ℕ) → y < x → P y → IsPair r.events a b → is_access_at r.events y a ≡ true → IsHeld r place rows most leasts a b

-- the pair of an earlier and a later event is held as a candidate, and its variable is counted
abbrev pub HoldsCandidate : (ℕ → ℕ) → List Row → ℕ → List Least → ℕ → ℕ → Type 0
HoldsCandidate place rows x leasts a b = IsCandidateHeld place rows leasts a b × IsVariableHeld place rows x leasts a b

-- the pair is held as an open pair, unless both threads hold a common lock
abbrev pub HoldsOpen : (ℕ → ℕ) → List Row → ℕ → List Least → Between → List Class → List ℕ → List (Vec ℕ Global) → ℕ → ℕ → Type 0
HoldsOpen place rows most leasts of infos numbers lists a b =
    is_kept_pair (keeps_shared lists) numbers infos a b ≡ false → IsOpenHeld place rows most leasts of a b × IsVariableHeld place rows of.variable leasts a b

-- The tables of a search are of one trace, and its flags and options fit.
pub record IsSound (s : Search) : Type 0 where
  pub formed : IsWellFormed s.indexed.now
  pub rules : IsDisciplined s.indexed.now.events
  pub clocks : s.clocks.now ≡ s.indexed.now
  pub places : length s.places.now ≡ length s.indexed.now.events
  pub groups : AreGroups s.indexed.now (slice_index s.places.now) s.classes.now.numbers.items s.classes.now.infos.items s.classes.now.lists.keys s.groups.now.rows.items
  pub known : IsCutOf s.indexed.now.events (IsKnownBefore s.indexed.now.events) (known_before s.indexed.now.events)
  pub forced : IsCutOf s.indexed.now.events (IsForced s.indexed.now.events) (counted_before s.rows.now s.indexed.now.events)
  pub width : s.rows.now.width ≡ length s.indexed.now.threads
  pub len : len_of s.rows.now ≡ length s.indexed.now.events
  pub some : 0 < s.most
  pub turns : 0 < s.every
  pub no_candidate : s.has_candidates ≡ false → All (λ (row : Row). row.counts.candidates ≡ 0) s.groups.now.rows.items
  pub no_open : s.has_open ≡ false → All (λ (row : Row). row.counts.open_pairs ≡ 0) s.groups.now.rows.items

-- the row at this index has the places of the two events
abbrev pub IsRowOfPair : Search → ℕ → ℕ → ℕ → Type 0
IsRowOfPair s a b at =
    (row : Row) × (slice_get s.groups.now.rows.items at ≡ Some row) × AreAt (slice_index s.places.now) row.places a b

-- whether the lists of locks of the two events have a common lock
abbrev pub is_guarded_pair : Search → ℕ → ℕ → Bool
is_guarded_pair s a b =
    is_kept_pair (keeps_shared s.classes.now.lists.keys) s.classes.now.numbers.items s.classes.now.infos.items a b

-- the number of events of thread t that the row of event b's base counts
abbrev pub forced_below : Search → ℕ → ℕ → ℕ
forced_below s b t = counted_before s.rows.now s.indexed.now.events b t

-- the variables whose turn it is: their numbers leave this remainder
abbrev pub IsTurn : ℕ → ℕ → ℕ → Type 0
IsTurn every from x = x % every ≡ from

abbrev pub IsOwn : Search → ℕ → Type 0
IsOwn s = IsTurn s.every s.from

-- the findings so far on the variables whose turn it is
abbrev pub AreFoundBelow : Search → ℕ → List Least → Type 0
AreFoundBelow s x leasts = AreSoFar s.indexed.now (slice_index s.places.now) s.groups.now.rows.items s.most (IsOwn s) x leasts

-- all pairs of the variable are taken
abbrev pub AreAllTakenOf : Search → ℕ → List Least → Type 0
AreAllTakenOf s = AreAllTaken s.indexed.now (slice_index s.places.now) s.groups.now.rows.items s.most

-- The same while the variable x, whose turn it is, is visited.
pub record AreFound (s : Search) (x : ℕ) (leasts : List Least) : Type 0 where
  pub so_far : AreFoundBelow s x leasts
  pub own : IsOwn s x

-- All pairs of the variables with P are in the findings.
pub record AreFoundOf (s : Search) (P : ℕ → Type 0) (leasts : List Least) : Type 0 where
  pub so_far : AreSoFar s.indexed.now (slice_index s.places.now) s.groups.now.rows.items s.most P (length s.indexed.now.variables) leasts
  pub held : AreHeldBelow s.indexed.now (slice_index s.places.now) s.groups.now.rows.items s.most P (length s.indexed.now.variables) leasts

abbrev pub HasCandidate : Search → ℕ → List Least → ℕ → ℕ → Type 0
HasCandidate s x leasts = HoldsCandidate (slice_index s.places.now) s.groups.now.rows.items x leasts

abbrev pub HasOpen : Search → List Least → Between → ℕ → ℕ → Type 0
HasOpen s leasts of =
    HoldsOpen (slice_index s.places.now) s.groups.now.rows.items s.most leasts of s.classes.now.infos.items s.classes.now.numbers.items s.classes.now.lists.keys

-- all pairs of the variable whose later event is below n are taken
abbrev pub AreTakenBefore : Search → ℕ → List Least → ℕ → Type 0
AreTakenBefore s x leasts n =
    (a b : ℕ) → IsPair s.indexed.now.events a b → is_access_at s.indexed.now.events x a ≡ true → b < n
    → IsTaken s.indexed.now (slice_index s.places.now) s.groups.now.rows.items s.most x leasts a b

-- all pairs of the later event with those of a lane are taken
abbrev pub AreTakenWith : Search → List Least → Lane → Later → Type 0
AreTakenWith s leasts l later =
    (k : ℕ) → k < length l.events.items → IsPair s.indexed.now.events (slice_index l.events.items k) later.event
    → IsTaken s.indexed.now (slice_index s.places.now) s.groups.now.rows.items s.most later.variable leasts (slice_index l.events.items k) later.event

-- the same for all lanes
abbrev pub AreTakenWithAll : Search → List Least → List Lane → Later → Type 0
AreTakenWithAll s leasts lanes later = (at : ℕ) (l : Lane) → slice_get lanes at ≡ Some l → AreTakenWith s leasts l later

-- the lane has no event, or its events do not conflict with the later one
abbrev pub AreNotClashing : Lane → Later → Type 0
AreNotClashing l later =
    (length l.events.items ≡ 0) ⊎ (l.thread ≡ later.thread) ⊎ ((l.is_writing ≡ false) × (later.is_writing ≡ false))

-- A lane of events that are not after the later one, and conflict with it.
pub record AreClashing (s : Search) (l : Lane) (later : Later) : Type 0 where
  pub begun : IsBegun s.indexed.now.events s.classes.now.numbers.items later.variable (later.event + 1) l
  pub one : IsLater s.indexed.now.events s.classes.now.numbers.items later
  pub variable : later.variable < length s.indexed.now.variables
  pub some : 0 < length l.events.items
  pub threads : l.thread ≢ later.thread
  pub writes : (l.is_writing || later.is_writing) ≡ true

-- the pair is held as a pair of the kind that the search visits
abbrev pub Has : Sought → Search → List Least → Between → ℕ → ℕ → Type 0
Has Candidates s leasts of = HasCandidate s of.variable leasts
Has Opens s leasts of = HasOpen s leasts of

-- whether the trace has any pairs of this kind
abbrev pub has_some : Sought → Search → Bool
has_some Candidates s = s.has_candidates
has_some Opens s = s.has_open

abbrev pub kind_of : Sought → Kind
kind_of Candidates = CandidateKind
kind_of Opens = OpenKind

-- The search may visit the pair: a candidate; or a pair that SHB orders and must-before does not, which a lock may
-- guard.
abbrev pub IsSought : Sought → Recording → ℕ → ℕ → Type 0
IsSought Candidates r a b = IsKind r a b CandidateKind
IsSought Opens r a b = IsKnownBefore r.events a b × (¬ IsForced r.events a b)

-- The search may visit the pairs of the window's events with its later one.
pub record IsWindow (sought : Sought) (s : Search) (w : Window) : Type 0 where
  pub lanes : AreClashing s w.lane.now w.later
  pub within : w.end ≤ length w.lane.now.events.items
  pub inside : (k : ℕ) → w.from ≤ k → k < w.end
      → IsPair s.indexed.now.events (slice_index w.lane.now.events.items k) w.later.event
      × IsSought sought s.indexed.now (slice_index w.lane.now.events.items k) w.later.event

-- the event at index k of the lane was compared with event p
abbrev pub WasSeen : Sought → Search → Window → ℕ → ℕ → Type 0
WasSeen Candidates s w p k = slice_index w.lane.now.events.items k < p
WasSeen Opens s w p k = place_of s.indexed.now.events (slice_index w.lane.now.events.items k) < known_before s.indexed.now.events p w.lane.now.thread

-- the events of the window below index n were compared with the previous event
abbrev pub WereSeen : Sought → Search → Window → ℕ → Type 0
WereSeen sought s w n = (k : ℕ) → w.from ≤ k → k < n → (p : ℕ) × (w.later.previous ≡ Some p) × WasSeen sought s w p k

-- the pair of the lane's event at index k with the later one is held
abbrev pub HasEventAt : Sought → Search → List Least → Window → ℕ → Type 0
HasEventAt sought s leasts w k = Has sought s leasts (of_window w) (slice_index w.lane.now.events.items k) w.later.event

-- all pairs of the window are held
abbrev pub HasWindow : Sought → Search → List Least → Window → Type 0
HasWindow sought s leasts w = (k : ℕ) → w.from ≤ k → k < w.end → HasEventAt sought s leasts w k

-- those of the kind that is sought
abbrev pub HasOfKind : Sought → Search → List Least → Window → Type 0
HasOfKind sought s leasts w =
    (k : ℕ) → w.from ≤ k → k < w.end
    → IsKind s.indexed.now (slice_index w.lane.now.events.items k) w.later.event (kind_of sought)
    → HasEventAt sought s leasts w k

-- those of one bunch
abbrev pub HasOfBunch : Sought → Search → List Least → Window → Bunch → Type 0
HasOfBunch sought s leasts w bunch =
    (k : ℕ) → w.from ≤ k → k < w.end → Contains bunch.events.items (slice_index w.lane.now.events.items k)
    → HasEventAt sought s leasts w k
