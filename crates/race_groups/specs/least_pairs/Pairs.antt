-- The pairs of events that represent a pair of places: the least of a kind, and the least open ones of each variable
-- and two threads. A pair is given by its later event and then by its earlier one. `T` is the events of a trace, `r`
-- its recording; `place` has the place of each event. All notions here are this project's own.
use Rattle.std.specs.Prelude.{◌≡◌, ◌⊎◌, ℕ, ◌<◌, ◌≤◌, true, Bool, List, length, All, AllPairs, Any, slice_get, slice_index, Option, Some, None, Vec, ⊤}
use Rattle.std.specs.declared.alloc.Global.{Global}
use Rattle.rapid_text.specs.Recording.{Recording}
use Rattle.rapid_text.specs.declared.event.Event.{Event}
use Rattle.event_index.specs.Events.{passes_at, thread_at}
use Rattle.event_index.specs.Lookups.{before}
use Rattle.event_index.specs.Relations.{IsConflicting, is_access}
use Rattle.must_order.specs.Kinds.{IsKind}
use Rattle.must_order.specs.declared.kind.Kind.TheVariants.{Candidate as CandidateKind, Open as OpenKind}
use Rattle.race_groups.specs.Classes.{AreClasses, AreLocks}
use Rattle.race_groups.specs.Found.{AreComplete, AreOnce}
use Rattle.race_groups.specs.Groups.{is_between, IsCountOf}
use Rattle.race_groups.specs.Kinds.{IsRow}
use Rattle.race_groups.specs.declared.class.Class.{Class}
use Rattle.race_groups.specs.declared.classes.Classes.{Classes}
use Rattle.race_groups.specs.declared.kinds.Groups.{Groups}
use Rattle.race_groups.specs.declared.kinds.Row.{Row}
use Rattle.race_groups.specs.least_pairs.Order.{IsAhead, IsUpTo}
use Rattle.race_groups.specs.declared.least_pairs.least.Least.{Least}
use Rattle.race_groups.specs.declared.least_pairs.sharing.Counted.{Counted}
use Rattle.race_groups.specs.declared.least_pairs.tries.Between.{Between}
use Rattle.race_groups.specs.declared.least_pairs.tries.Try.{Try}
use Rattle.race_groups.specs.declared.least_pairs.wanted.Wanted.{Wanted}
use Rattle.race_groups.specs.declared.least_pairs.wanted.Wanted.TheVariants.{Candidate, Open, Any as AnyKind}

-- The rows and the classes of a trace, as they were counted.
pub record AreGroups (r : Recording) (place : ℕ → ℕ) (numbers : List ℕ) (infos : List Class) (lists : List (Vec ℕ Global)) (rows : List Row) : Type 0 where
  pub classes : AreClasses r.events place numbers infos
  pub locks : AreLocks r.events lists numbers infos
  pub rows_are : All (IsRow r place) rows
  pub complete : AreComplete r.events place rows
  pub once : AreOnce rows

-- the same with the classes and the rows as whole tables
abbrev pub AreGroupsOf : Recording → (ℕ → ℕ) → Classes → Groups → Type 0
AreGroupsOf r place c g = AreGroups r place c.numbers.items c.infos.items c.lists.keys g.rows.items

-- what was counted is of one trace
abbrev pub AreCountedGroups : Counted → Type 0
AreCountedGroups c = AreGroupsOf c.indexed.now (slice_index c.places.now) c.classes.now c.groups.now

-- one element for each row
abbrev pub IsOneForEach : {X : Type 0} → Groups → Vec X Global → Type 0
IsOneForEach g found = length found.items ≡ length g.rows.items

-- the same for what was counted
abbrev pub IsOneForEachRow : {X : Type 0} → Counted → Vec X Global → Type 0
IsOneForEachRow c = IsOneForEach c.groups.now

-- a and b are events of the trace that conflict, and a is the earlier
pub record IsPair (T : List Event) (a b : ℕ) : Type 0 where
  pub conflict : IsConflicting T a b
  pub earlier : a < b
  pub within : b < length T

-- the pair is of the wanted kind
abbrev pub IsWanted : Recording → ℕ → ℕ → Wanted → Type 0
IsWanted r a b Candidate = IsKind r a b CandidateKind
IsWanted r a b Open = IsKind r a b OpenKind
IsWanted r a b AnyKind = ⊤

-- the two events have the two places, in one order or the other
abbrev pub AreAt : (ℕ → ℕ) → ℕ × ℕ → ℕ → ℕ → Type 0
AreAt place places a b = is_between places.0 places.1 (place a) (place b) ≡ true

-- a conflicting pair of the two places, of the wanted kind
pub record IsFit (r : Recording) (place : ℕ → ℕ) (places : ℕ × ℕ) (wanted : Wanted) (a b : ℕ) : Type 0 where
  pub pair : IsPair r.events a b
  pub at : AreAt place places a b
  pub kind : IsWanted r a b wanted

-- the least pair of the two places of the wanted kind, or None if no pair is of that kind
abbrev pub IsLeastPair : Recording → (ℕ → ℕ) → ℕ × ℕ → Wanted → Option (ℕ × ℕ) → Type 0
IsLeastPair r place places wanted None = (a b : ℕ) → ¬ IsFit r place places wanted a b
IsLeastPair r place places wanted (Some p) =
    IsFit r place places wanted p.1 p.0 × ((a b : ℕ) → IsFit r place places wanted a b → IsUpTo p (b, a))

-- the least conflicting pair of each row
abbrev pub AreFirstPairs : Recording → (ℕ → ℕ) → Groups → Vec (Option (ℕ × ℕ)) Global → Type 0
AreFirstPairs r place g found =
    (at : ℕ) (row : Row) (first : Option (ℕ × ℕ)) → slice_get g.rows.items at ≡ Some row
    → slice_get found.items at ≡ Some first
    → IsLeastPair r place row.places AnyKind first

-- whether the event exists and accesses the variable
abbrev pub is_access_at : List Event → ℕ → ℕ → Bool
is_access_at T x e = passes_at (λ v. is_access x v.op) T e

-- the pair is of this variable and these two threads
pub record IsOf (T : List Event) (of : Between) (a b : ℕ) : Type 0 where
  pub variable : is_access_at T of.variable a ≡ true
  pub earlier : thread_at T a ≡ Some of.earlier
  pub later : thread_at T b ≡ Some of.later

-- an open pair of the two places that is of the given variable and the given two threads
pub record IsOpenOf (r : Recording) (place : ℕ → ℕ) (places : ℕ × ℕ) (of : Between) (a b : ℕ) : Type 0 where
  pub fit : IsFit r place places Open a b
  pub of_these : IsOf r.events of a b

-- The least open pair of the two places for each variable and two threads: the first `most` such pairs, in rising
-- order.
pub record AreFirstTries (r : Recording) (place : ℕ → ℕ) (places : ℕ × ℕ) (most : ℕ) (tries : List Try) : Type 0 where
  pub each : All (λ (t : Try). IsOpenOf r place places t.between t.pair.1 t.pair.0) tries
  pub least : All (λ (t : Try). (a b : ℕ) → IsOpenOf r place places t.between a b → IsUpTo t.pair (b, a)) tries
  pub rising : AllPairs (λ (t u : Try). IsAhead t.pair u.pair) tries
  pub few : length tries ≤ most
  -- if a variable and two threads are left out, there are `most` pairs, and none of theirs comes before one of the
  -- list
  pub first :
      (of : Between) (a b : ℕ) → IsOpenOf r place places of a b
      → Any (λ (t : Try). t.between ≡ of) tries ⊎ ((length tries ≡ most) × All (λ (t : Try). IsUpTo t.pair (b, a)) tries)

-- the variable has a candidate or an open pair of the two places
pub record HasPair (r : Recording) (place : ℕ → ℕ) (places : ℕ × ℕ) (x : ℕ) : Type 0 where
  pub first : ℕ
  pub second : ℕ
  pub fit : IsFit r place places Candidate first second ⊎ IsFit r place places Open first second
  pub access : is_access_at r.events x first ≡ true

-- The findings on a pair of places: the least candidate; without a candidate, the open pairs to be tried; and the
-- number of variables with a candidate or an open pair.
pub record AreLeasts (r : Recording) (place : ℕ → ℕ) (places : ℕ × ℕ) (most : ℕ) (found : Least) : Type 0 where
  pub candidate : IsLeastPair r place places Candidate found.candidate
  pub tries : found.candidate ≡ None → AreFirstTries r place places most found.tries.items
  pub variables : IsCountOf (HasPair r place places) (before (length r.variables)) found.variables

-- the findings on each row
abbrev pub AreAllLeasts : Recording → (ℕ → ℕ) → Groups → ℕ → Vec Least Global → Type 0
AreAllLeasts r place g most found =
    (at : ℕ) (row : Row) (l : Least) → slice_get g.rows.items at ≡ Some row → slice_get found.items at ≡ Some l
    → AreLeasts r place row.places most l

-- the same for what was counted
abbrev pub AreLeastsOf : Counted → Vec Least Global → Type 0
AreLeastsOf c = AreAllLeasts c.indexed.now (slice_index c.places.now) c.groups.now c.most
