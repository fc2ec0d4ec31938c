-- Which locks a thread holds before an event, and since when. `T` is the events of a trace, named by their numbers.
use Rattle.std.specs.Prelude.{◌≡◌, ℕ, ◌<◌, ◌≤◌, List, length, take, Some, All, AllPairs, Contains}
use Rattle.rapid_text.specs.Recording.{Recording}
use Rattle.rapid_text.specs.declared.event.Event.{Event}
use Rattle.rapid_text.specs.declared.event.Op.TheVariants.{Acquire}
use Rattle.trace_rules.specs.Rules.{hold_count}
use Rattle.event_index.specs.Events.{op_at, thread_at}
use Rattle.must_order.specs.MustBefore.{IsHeldBefore, IsSharedBefore}

-- Event e's thread holds the lock l before e since the acquire p. It does not hold l before p, and holds it all the
-- time from p up to e. So p is the outermost of nested acquires.
pub record IsHeldFrom (T : List Event) (e l p : ℕ) : Type 0 where
  pub thread : ℕ
  pub of : thread_at T e ≡ Some thread
  pub earlier : p < e
  pub acquires : op_at T p ≡ Some (Acquire l)
  pub of_acquire : thread_at T p ≡ Some thread
  pub free : hold_count (take p T) thread l ≡ 0
  pub held : (k : ℕ) → p < k → k ≤ e → 0 < hold_count (take k T) thread l

-- The locks below n that e's thread holds before e, in rising order.
pub record AreLocksHeld (T : List Event) (e n : ℕ) (locks : List ℕ) : Type 0 where
  pub rising : AllPairs ◌<◌ locks
  pub held : All (λ l. (l < n) × IsHeldBefore T e l) locks
  pub all : (l : ℕ) → l < n → IsHeldBefore T e l → Contains locks l

-- all locks that e's thread holds before e
abbrev pub AreHeldAt : Recording → ℕ → List ℕ → Type 0
AreHeldAt r e locks = AreLocksHeld r.events e (length r.locks) locks

-- l is a lock, and both threads hold it before their events
abbrev pub IsGuard : Recording → ℕ → ℕ → ℕ → Type 0
IsGuard r a b l = (l < length r.locks) × IsSharedBefore r.events a b l

-- no lock is held by both threads before their events
abbrev pub HasNoGuard : Recording → ℕ → ℕ → Type 0
HasNoGuard r a b = (k : ℕ) → k < length r.locks → ¬ IsSharedBefore r.events a b k
