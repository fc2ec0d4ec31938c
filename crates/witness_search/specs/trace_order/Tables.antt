-- The writes of each variable, and how far a thread's sections reach. No public clause cites this module. `T` is the
-- events of a trace.
use Rattle.std.specs.Prelude.{◌≡◌, ◌⊎◌, ◌↔◌, ℕ, ◌<◌, ◌≤◌, ◌+◌, Vec, List, length, slice_get, slice_index, Some, None, AllPairs, Contains}
use Rattle.std.specs.Global.{Global}
use Rattle.rapid_text.specs.Recording.{Recording}
use Rattle.rapid_text.specs.declared.event.Event.{Event}
use Rattle.rapid_text.specs.declared.event.Op.TheVariants.{Write}
use Rattle.event_index.specs.Events.{op_at, thread_at}
use Rattle.event_index.specs.Lookups.{place_of, section_end}

-- events has the writes of the variable among the first n events
pub record AreWritesOf (T : List Event) (n x : ℕ) (events : List ℕ) : Type 0 where
  pub rising : AllPairs (λ a b. a < b) events
  pub members : (e : ℕ) → Contains events e ↔ ((e < n) × (op_at T e ≡ Some (Write x)))

-- the same for each variable
pub record AreWritesUpTo (r : Recording) (n : ℕ) (writes : List (Vec ℕ Global)) : Type 0 where
  pub len : length writes ≡ length r.variables
  pub of : (x : ℕ) (v : Vec ℕ Global) → slice_get writes x ≡ Some v → AreWritesOf r.events n x v.items

-- q is the event directly before e in its thread
pub record IsNextAfter (T : List Event) (q e : ℕ) : Type 0 where
  pub same : thread_at T q ≡ thread_at T e
  pub next : place_of T e ≡ place_of T q + 1
  pub early : q < e

-- r ends the section that e begins, or is e
abbrev pub IsOwnEnd : List Event → ℕ → ℕ → Type 0
IsOwnEnd T e r = (section_end T e ≡ Some r) ⊎ ((section_end T e ≡ None) × (r ≡ e))

-- r is the last of event e and the ends of all sections that its thread began up to e
pub record IsReach (T : List Event) (e r : ℕ) : Type 0 where
  pub same : thread_at T r ≡ thread_at T e
  pub late : e ≤ r
  pub ends : (p k : ℕ) → thread_at T p ≡ thread_at T e → p ≤ e → section_end T p ≡ Some k → k ≤ r
  pub from : (r ≡ e) ⊎ ((p : ℕ) × (thread_at T p ≡ thread_at T e) × (p ≤ e) × (section_end T p ≡ Some r))

-- the same for each of the first n events
pub record AreReachesUpTo (T : List Event) (n : ℕ) (reach : List ℕ) : Type 0 where
  pub len : length reach ≡ n
  pub of : (e : ℕ) → e < n → IsReach T e (slice_index reach e)
