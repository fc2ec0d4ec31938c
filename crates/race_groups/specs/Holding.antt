-- The locks that threads hold, as lists, and the lists to which classes refer. `T` is the events of a trace.
use Rattle.std.specs.Prelude.{◌≡◌, ◌≢◌, ℕ, ◌<◌, ◌==◌, true, List, take, count_by, Option, Some, slice_get, Vec}
use Rattle.std.specs.List.{list_any}
use Rattle.std.specs.declared.alloc.Global.{Global}
use Rattle.rapid_text.specs.declared.event.Event.{Event}
use Rattle.rapid_text.specs.declared.event.Op.{Op}
use Rattle.rapid_text.specs.declared.event.Op.TheVariants.{Acquire}
use Rattle.event_index.specs.Events.{op_at, thread_at}
use Rattle.event_index.specs.Relations.{is_access}
use Rattle.trace_rules.specs.Rules.{hold_count}
use Rattle.must_order.specs.MustBefore.{IsHeldBefore}

-- the thread acquires the lock
abbrev pub IsTakenBy : List Event → ℕ → ℕ → Type 0
IsTakenBy T t l = (e : ℕ) × (thread_at T e ≡ Some t) × (op_at T e ≡ Some (Acquire l))

-- more than one thread acquires the lock
abbrev pub IsLent : List Event → ℕ → Type 0
IsLent T l = (t u : ℕ) × (t ≢ u) × IsTakenBy T t l × IsTakenBy T u l

-- how often the lock is in the list
abbrev pub times : ℕ → List ℕ → ℕ
times l locks = count_by (λ k. k == l) locks

-- Each thread's list has each lock as often as the thread holds it after the first n events.
abbrev pub AreHeld : List Event → ℕ → List (Vec ℕ Global) → Type 0
AreHeld T n held = (t : ℕ) (v : Vec ℕ Global) (l : ℕ) → slice_get held t ≡ Some v → times l v.items ≡ hold_count (take n T) t l

-- List n exists. It has locks that event e's thread holds before it, and all such locks that more than one thread
-- acquires. Two threads can hold no other common lock.
pub record AreLocksOf (T : List Event) (lists : List (Vec ℕ Global)) (e n : ℕ) : Type 0 where
  pub locks : Vec ℕ Global
  pub at : slice_get lists n ≡ Some locks
  pub held : (l : ℕ) → list_any (λ k. k == l) locks.items ≡ true → IsHeldBefore T e l
  pub lent : (l : ℕ) → IsHeldBefore T e l → IsLent T l → list_any (λ k. k == l) locks.items ≡ true

-- the same if event e is an access
abbrev pub AreAccessLocks : List Event → List (Vec ℕ Global) → ℕ → ℕ → Type 0
AreAccessLocks T lists e n = (x : ℕ) (op : Op) → op_at T e ≡ Some op → is_access x op ≡ true → AreLocksOf T lists e n

-- List n exists. It has locks that the thread holds after the first m events, and all such locks that more than one
-- thread acquires.
pub record AreLocksOfThread (T : List Event) (lists : List (Vec ℕ Global)) (m t n : ℕ) : Type 0 where
  pub locks : Vec ℕ Global
  pub at : slice_get lists n ≡ Some locks
  pub held : (l : ℕ) → list_any (λ k. k == l) locks.items ≡ true → 0 < hold_count (take m T) t l
  pub lent : (l : ℕ) → 0 < hold_count (take m T) t l → IsLent T l → list_any (λ k. k == l) locks.items ≡ true

-- If the number of a thread's list is known, that list has its locks after the first m events.
abbrev pub AreKnown : List Event → ℕ → List (Vec ℕ Global) → List (Option ℕ) → Type 0
AreKnown T m lists known = (t n : ℕ) → slice_get known t ≡ Some (Some n) → AreLocksOfThread T lists m t n

-- no thread's list is known
abbrev pub AreUnknown : List (Option ℕ) → Type 0
AreUnknown known = (t n : ℕ) → slice_get known t ≢ Some (Some n)
