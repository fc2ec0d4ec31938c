-- The order that every correct reordering keeps after which some requests are the next events of their threads. It is
-- closed under the rules of reads and of locks, as the trace-closed partial orders of Pavlogiannis, "Fast, sound, and
-- effectively complete dynamic race prediction" (POPL 2020). Must-before has no rule for a read and another write,
-- since such an order holds only among the events that the requests need. `T` is the events of a trace, named by their
-- numbers; `es` are the requests.
use Rattle.std.specs.Prelude.{◌≡◌, ◌≢◌, ◌⊎◌, ℕ, List, Option, Some, None, Contains}
use Rattle.rapid_text.specs.declared.event.Event.{Event}
use Rattle.rapid_text.specs.declared.event.Op.TheVariants.{Read, Write, Acquire}
use Rattle.event_index.specs.Events.{op_at, thread_at}
use Rattle.event_index.specs.Lookups.{base_of, last_writer, section_end}
use Rattle.must_order.specs.Held.{IsHeldFrom}
use Rattle.must_order.specs.MustBefore.{EndsFirst, IsMustBefore}

-- v writes the variable that r reads
pub record WritesTheSame (T : List Event) (v r : ℕ) : Type 0 where
  pub variable : ℕ
  pub writes : op_at T v ≡ Some (Write variable)
  pub reads : op_at T r ≡ Some (Read variable)

-- p and q acquire one lock, in two threads
pub record AcquireTheSame (T : List Event) (p q : ℕ) : Type 0 where
  pub lock : ℕ
  pub first : op_at T p ≡ Some (Acquire lock)
  pub second : op_at T q ≡ Some (Acquire lock)
  pub threads : thread_at T p ≢ thread_at T q

-- if p's section has an end, some request is must-before it
abbrev pub NeverEnds : List Event → List ℕ → ℕ → Type 0
NeverEnds T es p = (r : ℕ) → section_end T p ≡ Some r → (a : ℕ) × Contains es a × IsMustBefore T a r

-- `Precedes T es d None`: d is in each such list. `Precedes T es d (Some e)`: so is d if e is, and it comes before e.
pub data Precedes (T : List Event) (es : List ℕ) : ℕ → Option ℕ → Type 0 where
  -- a request is the next event of its thread
  base : (a c : ℕ) → Contains es a → base_of T a ≡ Some c → Precedes T es c None
  -- must-before
  must : (d e : ℕ) → IsMustBefore T d e → d ≢ e → Precedes T es d (Some e)
  -- a chain
  through : (d m : ℕ) (x : Option ℕ) → Precedes T es d (Some m) → Precedes T es m x → Precedes T es d x
  -- r reads what w wrote. Another write of the variable that comes before r comes before w.
  overwritten : (v w r : ℕ) → WritesTheSame T v r → last_writer T r ≡ Some w → v ≢ w
      → Precedes T es v (Some r) → Precedes T es r None → Precedes T es v (Some w)
  -- One that comes after w comes after r.
  unseen : (v w r : ℕ) → WritesTheSame T v r → last_writer T r ≡ Some w
      → Precedes T es w (Some v) → Precedes T es r None → Precedes T es r (Some v)
  -- r reads what nobody wrote, so it comes before each write of the variable.
  initial : (v r : ℕ) → WritesTheSame T v r → last_writer T r ≡ None → Precedes T es r None → Precedes T es r (Some v)
  -- What acquires a lock in another thread before an event of q's section comes before q.
  enters : (p q e l : ℕ) → op_at T p ≡ Some (Acquire l) → thread_at T p ≢ thread_at T q → IsHeldFrom T e l q
      → Precedes T es p (Some e) → Precedes T es e None → Precedes T es p (Some q)
  -- The section that began first has to end first.
  ends : (p r e : ℕ) → EndsFirst T p r e → Precedes T es p (Some e) → Precedes T es r (Some e)
  -- A section that never ends is the last one of its lock.
  lasts : (p q : ℕ) → AcquireTheSame T p q → NeverEnds T es p → Precedes T es q None → Precedes T es q (Some p)

-- an event of each such list precedes itself, or a request has to be in the list
abbrev pub AreContradicted : List Event → List ℕ → Type 0
AreContradicted T es =
    ((e : ℕ) × Precedes T es e (Some e) × Precedes T es e None) ⊎ ((a : ℕ) × Contains es a × Precedes T es a None)
