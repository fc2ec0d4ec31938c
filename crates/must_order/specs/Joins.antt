-- The joins that the rule of sections needed, from which `reasons` builds chains. No public clause cites this module.
-- `T` is the events of a trace. `js` is all joins, in the order in which they were made. For each event, `starts` has
-- the number of joins that were made before those of the event.
use Rattle.std.specs.Prelude.{◌≡◌, ◌⊎◌, ℕ, ◌+◌, ◌<◌, ◌≤◌, Bool, true, Vec, List, [], ◌∷◌, ◌++◌, length, All, slice_get, slice_index, Option, Some}
use Rattle.std.specs.Global.{Global}
use Rattle.rapid_text.specs.declared.event.Event.{Event}
use Rattle.event_index.specs.Lookups.{base_of}
use Rattle.must_order.specs.Layout.{source_of}
use Rattle.must_order.specs.MustBefore.{EndsFirst, IsMustBefore}
use Rattle.must_order.specs.Chains.{IsChain, IsLedFrom}
use Rattle.must_order.specs.declared.chains.Chain.{Chain}
use Rattle.must_order.specs.declared.chains.Reason.TheVariants.{Ended}
use Rattle.must_order.specs.declared.chains.Step.{Step}
use Rattle.must_order.specs.declared.joins.Join.{Join}
use Rattle.must_order.specs.declared.joins.Joins.{Joins}

-- one of the joins from index `low` up to `high` is of e, and d is must-before its release or is it
pub record IsJoined (T : List Event) (js : List Join) (low high d e : ℕ) : Type 0 where
  pub at : ℕ
  pub from : low ≤ at
  pub below : at < high
  pub join : Join
  pub found : slice_get js at ≡ Some join
  pub event : join.event ≡ e
  pub before : IsMustBefore T d join.release

-- d is must-before e's base, e's source, or the release of one of these joins of e
abbrev pub IsLed : List Event → List Join → ℕ → ℕ → ℕ → ℕ → Type 0
IsLed T js low high d e =
    ((b : ℕ) × (base_of T e ≡ Some b) × IsMustBefore T d b)
    ⊎ (((s : ℕ) × (source_of T e ≡ Some s) × IsMustBefore T d s) ⊎ IsJoined T js low high d e)

-- Join number k: its section has to end before its event. When the join was made, its acquire already led to the
-- event.
pub record IsJoin (T : List Event) (js : List Join) (starts : List ℕ) (k : ℕ) (j : Join) : Type 0 where
  pub event : j.event < length starts
  pub low : slice_index starts j.event ≤ k
  pub ends : EndsFirst T j.acquire j.release j.event
  pub earlier : j.release < j.event
  pub led : IsLed T js (slice_index starts j.event) k j.acquire j.event

-- The joins of the first i events, and the joins of event i that were made so far.
pub record AreJoins (T : List Event) (i : ℕ) (js : List Join) (starts : List ℕ) : Type 0 where
  pub len : length starts ≡ i + 1
  pub within : (x : ℕ) → x ≤ i → slice_index starts x ≤ length js
  pub rising : (x y : ℕ) → x ≤ y → y ≤ i → slice_index starts x ≤ slice_index starts y
  pub joins : (k : ℕ) (j : Join) → slice_get js k ≡ Some j → IsJoin T js starts k j
  pub all :
      (d x : ℕ) → x < i → IsMustBefore T d x
      → (d ≡ x) ⊎ IsLed T js (slice_index starts x) (slice_index starts (x + 1)) d x

-- a marked join with an index below `high` is of this acquire and this event
pub record IsNeeded (js : List Join) (needed : List Bool) (high p e : ℕ) : Type 0 where
  pub at : ℕ
  pub below : at < high
  pub marked : slice_get needed at ≡ Some true
  pub join : Join
  pub found : slice_get js at ≡ Some join
  pub acquire : join.acquire ≡ p
  pub event : join.event ≡ e

-- no mark is removed
pub record KeepsMarks (old new : List Bool) : Type 0 where
  pub len : length new ≡ length old
  pub marks : (k : ℕ) → slice_get old k ≡ Some true → slice_get new k ≡ Some true

-- The chains so far. If a step ends a section, a later chain leads from the beginning of the section, or a join below
-- `at` is marked for it.
pub record AreTold (T : List Event) (js : List Join) (needed : List Bool) (at : ℕ) (cs : List Chain) : Type 0 where
  pub some : 0 < length cs
  pub chains : All (IsChain T) cs
  pub sections :
      (i : ℕ) (c : Chain) → slice_get cs i ≡ Some c
      → All (λ s. (p : ℕ) → s.reason ≡ Ended p → IsLedFrom cs (i + 1) p s.to ⊎ IsNeeded js needed at p s.to) c.steps.items
  pub marks : length needed ≡ length js

-- the joins of the first i events
abbrev pub AreJoinsOf : List Event → ℕ → Joins → Type 0
AreJoinsOf T i joins = AreJoins T i joins.list.items joins.starts.items

-- the joins of all events
abbrev pub AreAllJoins : List Event → Joins → Type 0
AreAllJoins T joins = AreJoins T (length T) joins.list.items joins.starts.items

-- one of the joins of e below index `high` leads to e from d
abbrev pub IsJoinedBelow : List Event → Joins → ℕ → ℕ → ℕ → Type 0
IsJoinedBelow T joins high d e = IsJoined T joins.list.items (slice_index joins.starts.items e) high d e

-- d leads to e by e's base, its source or its joins below index `high`
abbrev pub IsLedBelow : List Event → Joins → ℕ → ℕ → ℕ → Type 0
IsLedBelow T joins high d e = IsLed T joins.list.items (slice_index joins.starts.items e) high d e

-- d leads to e by e's base, its source or its joins so far
abbrev pub IsLedBy : List Event → Joins → ℕ → ℕ → Type 0
IsLedBy T joins d e = IsLed T joins.list.items (slice_index joins.starts.items e) (length joins.list.items) d e

-- each event that is must-before e leads to e
abbrev pub AreLed : List Event → Joins → ℕ → Type 0
AreLed T joins e = (d : ℕ) → IsMustBefore T d e → (d ≡ e) ⊎ IsLedBy T joins d e

-- one join was added, with this event, acquire and release
abbrev pub AddsJoin : Joins → Joins → ℕ → ℕ → ℕ → Type 0
AddsJoin old new e a r = new.list.items ≡ old.list.items ++ record { event = e; acquire = a; release = r } ∷ []

-- the join is of e, and d is must-before its release or is it
abbrev pub LeadsTo : List Event → ℕ → ℕ → Join → Type 0
LeadsTo T d e join = (join.event ≡ e) × IsMustBefore T d join.release

-- if the step ends a section, a join below index `high` is marked for it
abbrev pub NeedsJoin : Joins → Vec Bool Global → ℕ → ℕ → Step → Type 0
NeedsJoin joins needed high e step = (p : ℕ) → step.reason ≡ Ended p → IsNeeded joins.list.items needed.items high p e

-- the same as `AreTold`, for the lists that the code has
abbrev pub AreToldBy : List Event → Joins → Vec Bool Global → ℕ → Vec Chain Global → Type 0
AreToldBy T joins needed at chains = AreTold T joins.list.items needed.items at chains.items

-- the step leads to e from this earlier event
abbrev pub StepsFrom : Option ℕ → ℕ → Step → Type 0
StepsFrom from e step = (from ≡ Some step.from) × (step.to ≡ e) × (step.from < e)

-- the step leads to e from an earlier event, which d is must-before or is
abbrev pub StepsOn : List Event → ℕ → ℕ → Step → Type 0
StepsOn T d e step = (step.to ≡ e) × (step.from < e) × IsMustBefore T d step.from

-- d is not must-before this event, if it exists
abbrev pub IsNotBefore : List Event → ℕ → Option ℕ → Type 0
IsNotBefore T d other = (o : ℕ) → other ≡ Some o → ¬ IsMustBefore T d o
