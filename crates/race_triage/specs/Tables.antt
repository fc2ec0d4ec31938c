-- The tables of one trace, and what is found with them. `r` is the trace's recording.
use Rattle.std.specs.Prelude.{◌≡◌, ◌≤◌, ℕ, max, true, All, List, Option, Some, length, slice_get, slice_index}
use Rattle.rapid_text.specs.Recording.{Recording}
use Rattle.race_groups.specs.ClassTables.{AreFewClasses, HaveClasses, HaveLocks, HaveMembers}
use Rattle.race_groups.specs.Found.{AreComplete, AreOnce, AreTooMany, HaveConflict}
use Rattle.race_groups.specs.Kinds.{IsRow}
use Rattle.race_groups.specs.declared.classes.Classes.{Classes}
use Rattle.race_groups.specs.declared.kinds.Groups.{Groups}
use Rattle.race_groups.specs.declared.kinds.Row.{Row}
use Rattle.race_groups.specs.least_pairs.Pairs.{AreLeasts, IsLeastPair}
use Rattle.race_groups.specs.declared.least_pairs.least.Least.{Least}
use Rattle.race_groups.specs.declared.least_pairs.wanted.Wanted.TheVariants.{Any as AnyPair}
use Rattle.race_triage.specs.declared.tables.Tables.{Tables}
use Rattle.race_triage.specs.declared.verdicts.Effort.{Effort}
use Rattle.race_triage.specs.Limits.{place_pair_limit}

-- The classes are those of the trace, whose events have the numbers of their locations.
pub record AreClassesOf (r : Recording) (numbers : List ℕ) (c : Classes) : Type 0 where
  pub classes : HaveClasses r.events (slice_index numbers) c
  pub few : AreFewClasses c
  pub members : HaveMembers c
  pub locks : HaveLocks r.events c

-- The orders, the acquires and the classes are those of the trace, and each event has the number of its location.
pub record AreTables (t : Tables) : Type 0 where
  pub clocks : t.clocks.now ≡ t.indexed.now
  pub must : t.must.now ≡ t.indexed.now
  pub acquires : t.acquires.now ≡ t.indexed.now
  pub places : length t.places.now ≡ length t.indexed.now.events
  pub classes : AreClassesOf t.indexed.now t.places.now t.classes.now

-- the counts of the row are those of the conflicting pairs at its two locations
abbrev pub IsRowIn : Tables → Row → Type 0
IsRowIn t = IsRow t.indexed.now (slice_index t.places.now)

-- two events of the two locations conflict
abbrev pub HasConflictIn : Tables → ℕ × ℕ → Type 0
HasConflictIn t places = HaveConflict t.indexed.now.events (slice_index t.places.now) places

-- each two conflicting events have a row
abbrev pub AreCompleteIn : Tables → List Row → Type 0
AreCompleteIn t rows = AreComplete t.indexed.now.events (slice_index t.places.now) rows

-- more than 1,048,576 pairs of locations have a conflicting pair of events
abbrev pub HaveTooManyPlaces : Tables → Type 0
HaveTooManyPlaces t = AreTooMany t.indexed.now.events (slice_index t.places.now) place_pair_limit

-- The rows are those of all pairs of locations with conflicting events.
pub record AreGroupsIn (t : Tables) (groups : Groups) : Type 0 where
  pub rows : All (IsRowIn t) groups.rows.items
  pub complete : AreCompleteIn t groups.rows.items
  pub there : All (λ (row : Row). HasConflictIn t row.places) groups.rows.items
  pub once : AreOnce groups.rows.items
  pub few : length groups.rows.items ≤ place_pair_limit

-- the least pairs of the two locations, with as many open pairs as the effort asks for
abbrev pub AreLeastsIn : Tables → Effort → ℕ × ℕ → Least → Type 0
AreLeastsIn t effort places l = AreLeasts t.indexed.now (slice_index t.places.now) places (max effort.tries 1) l

-- the least conflicting pair of the two locations, if the effort asks for it
abbrev pub IsFirstPairIn : Tables → Effort → ℕ × ℕ → Option (ℕ × ℕ) → Type 0
IsFirstPairIn t effort places first =
    effort.apart ≡ true → IsLeastPair t.indexed.now (slice_index t.places.now) places AnyPair first

-- Each row has its least pairs.
pub record AreLeastsFound (t : Tables) (effort : Effort) (rows : List Row) (leasts : List Least) : Type 0 where
  pub len : length leasts ≡ length rows
  pub are : (at : ℕ) (row : Row) (l : Least) → slice_get rows at ≡ Some row → slice_get leasts at ≡ Some l
      → AreLeastsIn t effort row.places l
