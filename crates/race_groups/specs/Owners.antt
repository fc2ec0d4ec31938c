-- Which classes a later thread skips: those whose events are all its own; and the tables of a trace's classes. No
-- public clause cites this module. `T` is the events of a trace.
use Rattle.std.specs.Prelude.{◌≡◌, ℕ, ◌<◌, ◌≤◌, List, length, slice_get, slice_index, Some, Vec}
use Rattle.std.specs.declared.alloc.Global.{Global}
use Rattle.rapid_text.specs.Recording.{Recording}
use Rattle.rapid_text.specs.declared.event.Event.{Event}
use Rattle.event_index.specs.Events.{thread_at}
use Rattle.race_groups.specs.Classes.{AreWriters}
use Rattle.race_groups.specs.Totals.{AreClassTotals, AreSpread, AreTotals, IsClassSpread}
use Rattle.race_groups.specs.declared.class.Class.{Class}
use Rattle.race_groups.specs.declared.classes.Classes.{Classes}
use Rattle.race_groups.specs.declared.writers.Conflicts.{Conflicts}
use Rattle.race_groups.specs.declared.writers.Owning.{Owning}
use Rattle.race_groups.specs.declared.writers.Tally.{Tally}

-- If the owner of a class is a thread, all events of the class are of this thread.
abbrev pub AreOwners : List Event → ℕ → List ℕ → List ℕ → Type 0
AreOwners T threads classes owners =
    (e t : ℕ) → thread_at T e ≡ Some t → slice_index owners (slice_index classes e) < threads → slice_index owners (slice_index classes e) ≡ t

-- the same for the classes of a trace
abbrev pub AreClassOwners : Recording → Classes → List ℕ → Type 0
AreClassOwners r c = AreOwners r.events (length r.threads) c.numbers.items

-- the same for the first n events
abbrev pub AreOwnersBelow : List Event → ℕ → List ℕ → ℕ → List ℕ → Type 0
AreOwnersBelow T threads classes n owners =
    (e t : ℕ) → e < n → thread_at T e ≡ Some t → slice_index owners (slice_index classes e) < threads → slice_index owners (slice_index classes e) ≡ t

-- From index i up to n the classes have one owner.
pub record IsRun (owners cs : List ℕ) (i n : ℕ) : Type 0 where
  pub more : i < n
  pub within : n ≤ length cs
  pub one : (k : ℕ) → i ≤ k → k < n → slice_index owners (slice_index cs k) ≡ slice_index owners (slice_index cs i)

-- For each index, the end of the run of classes with one owner.
pub record AreRuns (owners cs runs : List ℕ) : Type 0 where
  pub len : length runs ≡ length cs
  pub each : (i : ℕ) → i < length cs → IsRun owners cs i (slice_index runs i)

-- the same for the list of each variable
pub record AreRunsOf (owners : List ℕ) (lists runs : List (Vec ℕ Global)) : Type 0 where
  pub len : length runs ≡ length lists
  pub each : (x : ℕ) (v r : Vec ℕ Global) → slice_get lists x ≡ Some v → slice_get runs x ≡ Some r → AreRuns owners v.items r.items

-- The tables are those of this trace's classes.
pub record AreConflicts (T : List Event) (threads : ℕ) (classes : List ℕ) (infos : List Class) (members : List (Vec ℕ Global)) (c : Conflicts) : Type 0 where
  pub writers : AreWriters infos members c.writers.items
  pub owners : AreOwners T threads classes c.owners.items
  pub runs : AreRunsOf c.owners.items members c.runs.items
  pub writer_runs : AreRunsOf c.owners.items c.writers.items c.writer_runs.items
  pub totals : AreTotals T threads classes (length infos) c.totals.items
  pub spread : AreSpread T threads classes (length infos) c.spread.items

-- the same for the classes of a trace
abbrev pub AreClassConflicts : Recording → Classes → Conflicts → Type 0
AreClassConflicts r c = AreConflicts r.events (length r.threads) c.numbers.items c.infos.items c.members.items

-- The tables that need no number of events are those of this trace's classes.
pub record AreOwning (r : Recording) (c : Classes) (o : Owning) : Type 0 where
  pub writers : AreWriters c.infos.items c.members.items o.writers.items
  pub owners : AreClassOwners r c o.owners.items
  pub runs : AreRunsOf o.owners.items c.members.items o.runs.items
  pub writer_runs : AreRunsOf o.owners.items o.writers.items o.writer_runs.items

-- The numbers of events are those of this trace's classes.
pub record AreTallied (r : Recording) (c : Classes) (t : Tally) : Type 0 where
  pub totals : AreClassTotals r c t.totals.items
  pub spread : IsClassSpread r c t.spread.items
