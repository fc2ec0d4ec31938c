-- What each correct reordering has after which requests are the next events of their threads. This notion is this
-- project's own. `T` is the events of a trace, named by their numbers; `es` are the requests.
use Rattle.std.specs.Prelude.{◌≡◌, ◌≢◌, ◌⊎◌, ℕ, ◌<◌, List, take, Some, None, Contains}
use Rattle.rapid_text.specs.declared.event.Event.{Event}
use Rattle.rapid_text.specs.declared.event.Op.TheVariants.{Acquire}
use Rattle.trace_rules.specs.Rules.{hold_count}
use Rattle.event_index.specs.Events.{op_at, thread_at}
use Rattle.event_index.specs.Lookups.{base_of, section_end}
use Rattle.must_order.specs.MustBefore.{IsMustBefore}

-- p acquires a lock that the thread of request e, another one, holds before e
pub record IsForeign (T : List Event) (e p : ℕ) : Type 0 where
  pub lock : ℕ
  pub owner : ℕ
  pub thread : ℕ
  pub acquires : op_at T p ≡ Some (Acquire lock)
  pub of_owner : thread_at T p ≡ Some owner
  pub of_thread : thread_at T e ≡ Some thread
  pub other : owner ≢ thread
  pub holds : 0 < hold_count (take e T) thread lock

-- The events that the requests require: the base of each request; with an event what is must-before it; and the end of
-- each required section of another thread whose lock a request's thread holds.
pub data IsRequired (T : List Event) (es : List ℕ) : ℕ → Type 0 where
  base : (e c : ℕ) → Contains es e → base_of T e ≡ Some c → IsRequired T es c
  before : (d e : ℕ) → IsRequired T es e → IsMustBefore T d e → IsRequired T es d
  ended : (e p r : ℕ) → Contains es e → IsRequired T es p → IsForeign T e p → section_end T p ≡ Some r → IsRequired T es r

-- a required section of another thread, whose lock a request's thread holds, has no end
pub record IsUnended (T : List Event) (es : List ℕ) : Type 0 where
  pub request : ℕ
  pub start : ℕ
  pub has : Contains es request
  pub required : IsRequired T es start
  pub foreign : IsForeign T request start
  pub never_ends : section_end T start ≡ None

-- the requests require one of themselves
abbrev pub IsOwnRequired : List Event → List ℕ → Type 0
IsOwnRequired T es = (e : ℕ) × Contains es e × IsRequired T es e

-- the requests require what cannot be: one of themselves, or the end of a section that never ends
abbrev pub AreRefuted : List Event → List ℕ → Type 0
AreRefuted T es = IsOwnRequired T es ⊎ IsUnended T es
