-- Classes and places in progress. No public clause cites this module. `T` is the events of a trace.
use Rattle.std.specs.Prelude.{true, ◌≡◌, ◌⊎◌, ◌∷◌, ◌++◌, [], ℕ, ◌+◌, ◌<◌, ◌≤◌, List, filter, length, slice_get, slice_index, option_map, Option, Some, Vec}
use Rattle.std.specs.declared.alloc.Global.{Global}
use Rattle.rapid_text.specs.Recording.{Recording}
use Rattle.rapid_text.specs.declared.event.Event.{Event}
use Rattle.event_index.specs.Events.{op_at}
use Rattle.event_index.specs.Lookups.{before}
use Rattle.event_index.specs.Relations.{is_access}
use Rattle.race_groups.specs.Classes.{accesses}
use Rattle.race_groups.specs.Holding.{AreLocksOf}
use Rattle.race_groups.specs.declared.class.Class.{Class}
use Rattle.race_groups.specs.declared.classes.Numbering.{Numbering}
use Rattle.race_groups.specs.declared.grouping.Regrouped.{Regrouped}

-- The list has the same elements as before, and at most one more.
pub record IsGrown {X : Type 0} (old new : List X) : Type 0 where
  pub kept : (k : ℕ) (x : X) → slice_get old k ≡ Some x → slice_get new k ≡ Some x
  pub le : length old ≤ length new
  pub few : length new ≤ length old + 1

-- class c has the operation and the place of event e; for an access, also the locks that the event's thread holds
-- before it
pub record IsClassOf (T : List Event) (place : ℕ → ℕ) (infos : List Class) (lists : List (Vec ℕ Global)) (e c : ℕ) : Type 0 where
  pub info : Class
  pub at : slice_get infos c ≡ Some info
  pub op : op_at T e ≡ Some info.op
  pub located : info.place ≡ place e
  pub locks : (x : ℕ) → is_access x info.op ≡ true → AreLocksOf T lists e info.held

-- Each of the first n events has a class.
pub record AreNumbered (T : List Event) (place : ℕ → ℕ) (n : ℕ) (numbers : List ℕ) (infos : List Class) (lists : List (Vec ℕ Global)) : Type 0 where
  pub len : length numbers ≡ n
  pub few : length infos ≤ n
  pub few_lists : length lists ≤ n
  pub classes : (e : ℕ) → e < n → IsClassOf T place infos lists e (slice_index numbers e)
  -- each class is that of an event
  pub used : (k : ℕ) (i : Class) → slice_get infos k ≡ Some i → (e : ℕ) × (op_at T e ≡ Some i.op)

-- the same as one table; `places` has the number of each event's place
abbrev pub IsNumberedUpTo : Recording → List ℕ → ℕ → Numbering → Type 0
IsNumberedUpTo r places n made =
    AreNumbered r.events (slice_index places) n made.numbers.items made.infos.items made.lists.keys

-- the classes are the same as before, or this one was appended
abbrev pub AreClassesGrown : Class → List Class → List Class → Type 0
AreClassesGrown class old new = (new ≡ old) ⊎ (new ≡ old ++ class ∷ [])

-- the first n classes that access each variable
abbrev pub AreMembersBelow : List Class → ℕ → List (Vec ℕ Global) → Type 0
AreMembersBelow infos n members =
    (x : ℕ) (v : Vec ℕ Global) → slice_get members x ≡ Some v → v.items ≡ filter (λ c. accesses x (slice_get infos c)) (before n)

-- the bytes of entry n of a numbered set
abbrev pub text_at : List (Vec ℕ Global) → ℕ → Option (List ℕ)
text_at keys n = option_map (λ v. v.items) (slice_get keys n)

-- each element of the second list is in the first
abbrev pub AreElements : List Class → List Class → Type 0
AreElements infos made = (k : ℕ) (i : Class) → slice_get made k ≡ Some i → (c : ℕ) × (slice_get infos c ≡ Some i)

-- the first n events have the same class in both tables
abbrev pub AreAlike : List ℕ → List Class → List ℕ → List Class → ℕ → Type 0
AreAlike numbers infos after made n =
    (e : ℕ) → e < n → (i : Class) × (slice_get infos (slice_index numbers e) ≡ Some i) × (slice_get made (slice_index after e) ≡ Some i)

-- All events have the same class in both tables, and no class is new.
pub record IsRenumbered (numbers : List ℕ) (infos : List Class) (after : List ℕ) (made : List Class) : Type 0 where
  pub len : length after ≡ length numbers
  pub few : length made ≤ length infos
  pub alike : AreAlike numbers infos after made (length numbers)
  pub elements : AreElements infos made

-- the same as one table
abbrev pub IsRegrouped : List ℕ → List Class → Regrouped → Type 0
IsRegrouped numbers infos made = IsRenumbered numbers infos made.numbers.items made.infos.items
